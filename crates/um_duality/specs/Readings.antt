-- What is read from a board whose steps have ended.
use Rattle.std.specs.Prelude.{◌≡◌, ℕ, ◌<◌, ℤ, pos, ◌<ℤ◌, List, length, map, take, drop, slice_index_or}
use Rattle.um_laws.specs.Rational.{Rational, whole, mul, neg, inverse}
use Rattle.um_model.specs.Values.{PointValue}
use Rattle.um_multipliers.specs.PlainMultipliers.{MultipliersValue}
use Rattle.um_lp.specs.States.{State, slack, entry_of}
use Rattle.um_lp.specs.DualSteps.{Leaves}
use Rattle.um_lp.specs.WideStates.{common_denominator}
use Rattle.um_lp.specs.declared.board.At.{At}
use Rattle.um_lp.specs.declared.board.At.TheVariants.{Lower, Upper, Zero, Basic}
use Rattle.um_duality.specs.WholeMultiples.{whole_multiples, common_divisor, prices_from}

-- ---- multipliers

-- the reduced costs of the slacks, by row: what the rows' multipliers are over that of the objective
abbrev pub slack_costs : State → List Rational
slack_costs s = take s.frame.rows (drop (length s.frame.columns) s.reduced)

-- these reduced costs as least whole multiples
abbrev pub multipliers : State → MultipliersValue
multipliers s = record { y0 = pos (common_denominator (slack_costs s)); rows = prices_from 0 (whole_multiples (slack_costs s)) }

-- ---- the vertex

-- a number of thousandths in natural size
abbrev pub natural : Rational → Rational
natural x = mul x (inverse (whole (pos 1000)))

-- the columns' values in natural size
abbrev pub natural_values : State → List Rational
natural_values s = map natural (take (length s.frame.columns) s.values)

-- these values over their least common denominator
abbrev pub vertex : State → PointValue
vertex s = record { den = pos (common_denominator (natural_values s)); parts = whole_multiples (natural_values s) }

-- ---- the multipliers of Farkas

-- the sign is turned where the row's basic column is below its low end
abbrev pub turned : At → Rational → Rational
turned Lower x = neg x
turned Upper x = x
turned Zero x = x
turned Basic x = x

-- the entries of a row at the slacks, with their signs so turned, times one positive number, are these whole numbers, which have no common divisor but 1
pub record AreFarkasNumbers (s : State) (row : ℕ) (to : At) (numbers : List ℤ) : Type 0 where
  pub count : length numbers ≡ s.frame.rows
  pub factor : Rational
  pub positive : pos 0 <ℤ factor.num
  pub multiples : (i : ℕ) → i < s.frame.rows → whole (slice_index_or numbers i (pos 0)) ≡ mul factor (turned to (entry_of s row (slack s.frame i)))
  pub least : common_divisor numbers ≡ 1

-- the multipliers that show that no point satisfies the rows within the ends, where no column may enter for the row whose basic column leaves to this end: the objective's is 0
pub record AreFarkas (s : State) (row : ℕ) (y : MultipliersValue) : Type 0 where
  pub to : At
  pub leaves : Leaves s row to
  pub y0 : y.y0 ≡ pos 0
  pub numbers : List ℤ
  pub are : AreFarkasNumbers s row to numbers
  pub rows : y.rows ≡ prices_from 0 numbers
