-- What columns add to a leaf value.
use Rattle.std.specs.Prelude.{◌≡◌, ℕ, ◌*◌, ◌^◌, true, ℤ, pos, Option, Some, None}
use Rattle.std.specs.List.{enumerate_from}
use Rattle.um_model.specs.Values.{DeckValue, ColumnValue}
use Rattle.um_multipliers.specs.PlainMultipliers.{MultipliersValue}
use Rattle.um_model.specs.Boxes.{BoxValue}
use Rattle.um_model.specs.WellFormed.{IsWithin}
use Rattle.um_model.specs.LeafValue.{least, curve_between, linear_least, arc_least, is_endless_column, total}
use Rattle.um_model.specs.declared.limits.TheConstants.{MOST_COLUMNS, MOST_COEFFICIENT, MOST_END, MULTIPLIER_SIZE}
use Rattle.um_bound.specs.declared.columns.ColumnPart.{ColumnPart}
use Rattle.um_bound.specs.declared.columns.ColumnPart.TheVariants.{Linear, Curved, Endless}
use Rattle.um_bound.specs.declared.columns.ColumnSums.{ColumnSums}
use Rattle.um_bound.specs.declared.curves.Curve.{Curve}

-- the most that a column without an arc adds in size, in thousandths
abbrev pub most_linear : ℕ
most_linear = 513 * (MULTIPLIER_SIZE * MOST_COEFFICIENT) * MOST_END

-- the most that a column with an arc adds in size, in millionths
abbrev pub most_curved : ℕ
most_curved = 2 ^ 114

-- what a column adds in thousandths, and in millionths, and the sizes
pub record Adds (d : DeckValue) (b : BoxValue) (y : MultipliersValue) (c : ℕ × ColumnValue) (linear curved : ℤ) : Type 0 where
  pub linear_is : linear_least d b y c ≡ Some linear
  pub linear_size : IsWithin most_linear linear
  pub curved_is : arc_least d b y c ≡ Some curved
  pub curved_size : IsWithin most_curved curved

-- the part is the least of a cost times a value between these ends
abbrev pub IsLinearPart : ℤ → Option ℤ → Option ℤ → ColumnPart → Type 0
IsLinearPart cost low high (Linear value) = (least cost low high ≡ Some value) × IsWithin most_linear value
IsLinearPart cost low high (Curved value) = ⊥
IsLinearPart cost low high Endless = least cost low high ≡ None

-- the part is the least of a curve between these ends
abbrev pub IsCurvedPart : Curve → Option ℤ → Option ℤ → ColumnPart → Type 0
IsCurvedPart c low high (Linear value) = ⊥
IsCurvedPart c low high (Curved value) = (curve_between c.linear c.square low high ≡ Some value) × IsWithin most_curved value
IsCurvedPart c low high Endless = curve_between c.linear c.square low high ≡ None

-- the part is what this column adds
abbrev pub IsPartOf : DeckValue → BoxValue → MultipliersValue → ℕ × ColumnValue → ColumnPart → Type 0
IsPartOf d b y c (Linear value) = Adds d b y c value (pos 0)
IsPartOf d b y c (Curved value) = Adds d b y c (pos 0) value
IsPartOf d b y c Endless = is_endless_column d b y c ≡ true

-- the sums of what the columns add, each over all columns
pub record AreColumnSums (d : DeckValue) (b : BoxValue) (y : MultipliersValue) (sums : ColumnSums) : Type 0 where
  pub linear : sums.linear ≡ total (linear_least d b y) (enumerate_from 0 d.columns)
  pub linear_size : IsWithin (MOST_COLUMNS * most_linear) sums.linear
  pub curved : sums.curved ≡ total (arc_least d b y) (enumerate_from 0 d.columns)
  pub curved_size : IsWithin (MOST_COLUMNS * most_curved) sums.curved
