-- Sums of rows, kept by row in one list.
use Rattle.std.specs.Prelude.{◌≡◌, ℕ, ◌<◌, ℤ, pos, ◌+ℤ◌, ◌*ℤ◌, List, length, if◌then◌else◌, Option}
use Rattle.um_model.specs.Feasible.{part, is_arc_of}
use Rattle.um_model.specs.declared.deck.Arc.{Arc}
use Rattle.um_model.specs.declared.limits.TheConstants.{MOST_ROWS}

-- a sum for each row that a deck may have: the value of the row
pub record AreSums (value : ℕ → ℤ) (sums : List ℤ) : Type 0 where
  pub long : length sums ≡ MOST_ROWS
  pub each : (row : ℕ) → row < MOST_ROWS → part sums row ≡ value row

-- each row's sum has grown by the term of the row
pub record HaveGrown (term : ℕ → ℤ) (before after : List ℤ) : Type 0 where
  pub long : length after ≡ length before
  pub each : (row : ℕ) → row < length before → part after row ≡ part before row +ℤ term row

-- what an arc adds to the sum of a row; at None, to the objective
abbrev pub arc_term : Option ℕ → List ℤ → Arc → ℤ
arc_term row parts a = if is_arc_of row a then a.value *ℤ (part parts a.column *ℤ part parts a.column) else pos 0
