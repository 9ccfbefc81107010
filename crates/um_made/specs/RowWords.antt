-- A row by itself: its scale and its sides, from the numbers that stand in it.
use Rattle.std.specs.Prelude.{◌≡◌, ℕ, ◌<◌, ◌≤◌, ℤ, unsigned_abs, Bool, false, ◌||◌, not, nat_lt, List, [], ◌∷◌, ◌++◌, length, slice_index_or, flat_map, Option, Some, None, if◌then◌else◌}
use Rattle.std.specs.List.{list_all}
use Rattle.um_num.specs.declared.decimal.Decimal.{Decimal}
use Rattle.um_statements.specs.declared.fault.Fault.TheVariants.{TooFine, TooLarge}
use Rattle.um_statements.specs.Said.{Said, RowSaid}
use Rattle.um_statements.specs.Scaled.{least_scale, is_within_at}
use Rattle.um_statements.specs.CallRules.{Rule, first_fault, is_n}
use Rattle.um_statements.specs.Made.{coefficients, arcs_in, numbers_beside, low_side, high_side, side_at, range_at, row_scale, objective, sided_rows}
use Rattle.um_statements.specs.DeckRules.{is_above, row_rules, objective_rules}
use Rattle.um_made.specs.declared.numbers.RowNumbers.{RowNumbers}
use Rattle.um_made.specs.declared.sides.Sides.{Sides}
use Rattle.um_made.specs.declared.rows.Objective.{Objective}
use Rattle.um_made.specs.declared.rows.Scaled.{Scaled}
use Rattle.um_made.specs.declared.rows.SidedRow.{SidedRow}
use Rattle.um_model.specs.declared.limits.TheConstants.{MOST_SCALE, MOST_SIDE, MOST_COEFFICIENT, MOST_ARC}

-- ---- one row

-- the least scale of these coefficients and arcs, and of the numbers beside them
abbrev pub scale_of : List Decimal → List Decimal → RowSaid → ℕ
scale_of numbers arcs r = least_scale (numbers ++ (arcs ++ numbers_beside r))

-- the range of a row that is not N, scaled
abbrev pub range_taken : RowSaid → ℕ → Option ℤ
range_taken r scale = if is_n r.kind then None else range_at r scale

-- a side above 2^53, scaled
abbrev pub has_large_side : RowSaid → ℕ → Bool
has_large_side r scale =
    is_above MOST_SIDE (Some (side_at r scale))
    || (is_above MOST_SIDE (low_side r.kind (side_at r scale) (range_at r scale))
    || is_above MOST_SIDE (high_side r.kind (side_at r scale) (range_at r scale)))

-- the same rules as for the row of a deck
abbrev pub rules_of_row : List Decimal → List Decimal → RowSaid → List Rule
rules_of_row numbers arcs r =
    let scale = scale_of numbers arcs r in
    (nat_lt MOST_SCALE scale, TooFine)
    ∷ (
      not (list_all (is_within_at MOST_COEFFICIENT scale) numbers)
          || not (list_all (is_within_at MOST_ARC scale) arcs)
          || is_above MOST_SIDE (Some (side_at r scale))
          || is_above MOST_SIDE (low_side r.kind (side_at r scale) (range_at r scale))
          || is_above MOST_SIDE (high_side r.kind (side_at r scale) (range_at r scale)),
      TooLarge,
    ) ∷ []

-- this is the right-hand side of the row at the scale, and not too large
pub record IsSide (r : RowSaid) (scale : ℕ) (z : ℤ) : Type 0 where
  pub is : z ≡ side_at r scale
  pub within : unsigned_abs z ≤ MOST_SIDE
  pub fine : is_above MOST_SIDE (Some (side_at r scale)) ≡ false

-- these are the sides of the row at the scale
pub record AreSides (r : RowSaid) (scale : ℕ) (s : Sides) : Type 0 where
  pub side : s.side ≡ side_at r scale
  pub low : s.low ≡ low_side r.kind (side_at r scale) (range_at r scale)
  pub high : s.high ≡ high_side r.kind (side_at r scale) (range_at r scale)

-- ---- all rows

-- what stands in each row, by its place
pub record AreNumbers (said : Said) (rows : List RowNumbers) : Type 0 where
  pub count : length rows ≡ length said.rows
  pub coefficients_there : (i : ℕ) (d : RowNumbers) → i < length rows → (slice_index_or rows i d).coefficients.items ≡ coefficients said i
  pub arcs_there : (i : ℕ) (d : RowNumbers) → i < length rows → (slice_index_or rows i d).arcs.items ≡ arcs_in said i

-- the objective: its place among all rows, its scale and its right-hand side
pub record IsObjective (said : Said) (o : Objective) : Type 0 where
  pub row : RowSaid
  pub is : objective said ≡ Some (o.place, row)
  pub scale_is : o.scale ≡ row_scale said o.place row
  pub side_is : o.side ≡ side_at row o.scale

-- a sided row (not N, of two sides at most) as a row of the deck, but for its name
abbrev pub sided_row : Said → ℕ × RowSaid → SidedRow
sided_row said p =
    let scale = row_scale said p.0 p.1 in
    record {
      place = p.0;
      scale = scale;
      low = low_side p.1.kind (side_at p.1 scale) (range_at p.1 scale);
      high = high_side p.1.kind (side_at p.1 scale) (range_at p.1 scale);
    }

-- the scale and the sides of a row in which these coefficients and arcs stand
pub record IsScaled (numbers arcs : List Decimal) (r : RowSaid) (s : Scaled) : Type 0 where
  pub scale_is : s.scale ≡ scale_of numbers arcs r
  pub sides_are : AreSides r (scale_of numbers arcs r) s.sides

-- no rule on the objective or on a row is broken
pub record HaveNoFault (said : Said) : Type 0 where
  pub objective_fine : first_fault (objective_rules said (objective said)) ≡ None
  pub rows_fine : first_fault (flat_map (row_rules said) (sided_rows said)) ≡ None
