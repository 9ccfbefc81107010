-- What the parts of the readings give.
use Rattle.std.specs.Prelude.{◌≡◌, ◌≢◌, ℕ, ◌<◌, ℤ, pos, ◌*ℤ◌, unsigned_abs, List, length, ◌⊎◌, ⊤}
use Rattle.um_laws.specs.Rational.{Rational, neg}
use Rattle.um_multipliers.specs.declared.multipliers.Price.{Price}
use Rattle.um_lp.specs.DualSteps.{Harms}
use Rattle.um_num.specs.NumberLists.{number_at}
use Rattle.um_lp.specs.States.{State, entry_of, slack}
use Rattle.um_lp.specs.WideStates.{common, common_denominator}
use Rattle.um_lp.specs.declared.board.At.{At}
use Rattle.um_lp.specs.declared.board.At.TheVariants.{Lower, Upper, Zero, Basic}
use Rattle.um_duality.specs.WholeMultiples.{times, whole_multiples}
use Rattle.um_relax.specs.Limits.{AreSmall}
use Rattle.um_relax.specs.declared.whole.Whole.{Whole}

-- ---- whole multiples

-- the product, below the limit in size
pub record IsProduct (a b : ℤ) (limit : ℕ) (product : ℤ) : Type 0 where
  pub is : product ≡ a *ℤ b
  pub below : unsigned_abs product < limit

-- the least common multiple, below the limit
pub record IsCommon (a b limit : ℕ) (multiple : ℤ) : Type 0 where
  pub is : multiple ≡ pos (common a b)
  pub below : common a b < limit

-- the least common denominator, below the limit
pub record IsLeastDenominator (numbers : List Rational) (limit : ℕ) (den : ℤ) : Type 0 where
  pub is : den ≡ pos (common_denominator numbers)
  pub below : common_denominator numbers < limit

-- the number times a multiple of its denominator, below the limit in size
pub record IsTimes (multiple : ℕ) (x : Rational) (limit : ℕ) (part : ℤ) : Type 0 where
  pub is : part ≡ times multiple x
  pub below : unsigned_abs part < limit

-- the numbers over their least common denominator, all below the limit in size
pub record IsWholeOf (limit : ℕ) (numbers : List Rational) (w : Whole) : Type 0 where
  pub den : w.den ≡ pos (common_denominator numbers)
  pub parts : w.parts.items ≡ whole_multiples numbers
  pub small : AreSmall limit numbers

-- the denominator or one of the whole numbers is not below the limit
abbrev pub AreTooLarge : ℕ → List Rational → Type 0
AreTooLarge limit numbers = ¬ AreSmall limit numbers

-- the multiplier of a row, which is not 0
pub record IsPrice (row : ℕ) (value : ℤ) (price : Price) : Type 0 where
  pub nonzero : value ≢ pos 0
  pub is : price ≡ record { row = row; value = value }

-- ---- the row without a point

-- an end that a column may leave to
abbrev pub IsSide : At → Type 0
IsSide Lower = ⊤
IsSide Upper = ⊤
IsSide Zero = ⊥
IsSide Basic = ⊥

-- the entries of a row at the first slacks
pub record AreSlackEntries (s : State) (row count : ℕ) (entries : List Rational) : Type 0 where
  pub long : length entries ≡ count
  pub are : (i : ℕ) → i < count → number_at entries i ≡ entry_of s row (slack s.frame i)

-- the number or its negative, below 0 for the low end and above 0 for the high end
pub record IsSigned (to : At) (entry divisor : Rational) : Type 0 where
  pub same : (divisor ≡ entry) ⊎ (divisor ≡ neg entry)
  pub sign : Harms to divisor

-- one of the entries, with the sign for this end
pub record IsDivisor (to : At) (entries : List Rational) (divisor : Rational) : Type 0 where
  pub place : ℕ
  pub within : place < length entries
  pub signed : IsSigned to (number_at entries place) divisor
