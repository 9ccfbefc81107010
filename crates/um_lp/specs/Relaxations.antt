-- The frame of a board that is made for a relaxation.
use Rattle.std.specs.Prelude.{◌≡◌, ℕ, ◌+◌, ◌*◌, ◌<◌, ◌^◌, ℤ, List, [], ◌∷◌, length, All, AllPairs}
use Rattle.um_num.specs.Listed.{Listed}
use Rattle.um_num.specs.Numbers.{IsInRange}
use Rattle.um_lp.specs.States.{ColumnData, Frame, width}
use Rattle.um_lp.specs.declared.relaxation.Term.{Term}
use Rattle.um_lp.specs.declared.relaxation.Relaxation.{Relaxation}

-- the columns of these costs and terms
abbrev pub columns_of : List ℤ → List (Listed Term) → List ColumnData
columns_of [] entries = []
columns_of (cost ∷ costs) [] = []
columns_of (cost ∷ costs) (terms ∷ entries) = record { cost = cost; terms = terms.items } ∷ columns_of costs entries

-- a row for each row of the deck and each bend, the columns of the deck, and 256 places for each bend
abbrev pub frame_of : Relaxation → Frame
frame_of r = record { rows = r.rows + length r.bends.items; columns = columns_of r.costs.items r.entries.items; places = 256 * length r.bends.items }

-- terms by rising row, in the deck's rows, with numbers in range
pub record AreTerms (rows : ℕ) (terms : List Term) : Type 0 where
  pub within : All (λ (t : Term). t.row < rows) terms
  pub rise : AllPairs (λ (a : Term) (b : Term). a.row < b.row) terms
  pub range : All (λ (t : Term). IsInRange t.value) terms

-- a cost and terms for each column, and no more columns with slacks and places than a board can number
pub record IsRelaxation (r : Relaxation) : Type 0 where
  pub costs : length r.costs.items ≡ r.columns
  pub costs_in : All IsInRange r.costs.items
  pub entries : length r.entries.items ≡ r.columns
  pub terms : All (λ (terms : Listed Term). AreTerms r.rows terms.items) r.entries.items
  pub size : width (frame_of r) < 2 ^ 32
