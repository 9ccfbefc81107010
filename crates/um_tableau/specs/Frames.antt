-- What a board keeps of its relaxation.
use Rattle.std.specs.Prelude.{◌≡◌, ℕ, ◌+◌, ◌<◌, ◌^◌, ℤ, List, length, All, AllPairs}
use Rattle.um_num.specs.Listed.{Listed}
use Rattle.um_num.specs.Numbers.{IsInRange}
use Rattle.um_lp.specs.States.{ColumnData}
use Rattle.um_lines.specs.Lines.{AreInRange}
use Rattle.um_lp.specs.declared.relaxation.Term.{Term}

-- the items of a list
abbrev pub items_of : Listed Term → List Term
items_of l = l.items

-- what a column costs
abbrev pub cost_in : ColumnData → ℤ
cost_in column = column.cost

-- terms by rising row, with numbers in range
pub record AreRisingTerms (terms : List Term) : Type 0 where
  pub rise : AllPairs (λ (a : Term) (b : Term). a.row < b.row) terms
  pub range : All (λ (t : Term). IsInRange t.value) terms

-- as many lists of terms as costs, and no more columns than can be numbered
pub record IsGiven (rows places : ℕ) (costs : List ℤ) (terms : List (Listed Term)) : Type 0 where
  pub same : length terms ≡ length costs
  pub size : length costs + rows + places < 2 ^ 32
  pub costs_in : AreInRange costs
  pub terms_in : All (λ (l : Listed Term). AreRisingTerms l.items) terms
