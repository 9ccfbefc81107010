-- Lines of numbers: whole numbers over one denominator.
use Rattle.std.specs.Prelude.{◌≡◌, ℕ, ◌<◌, ℤ, pos, ◌≤ℤ◌, List, length, map, slice_index_or, unsigned_abs}
use Rattle.std.specs.Int.{◌∣◌}
use Rattle.um_laws.specs.Rational.{Rational, whole, neg}
use Rattle.um_num.specs.NumberLists.{number_at}
use Rattle.um_num.specs.Numbers.{IsInRange}
use Rattle.um_num.specs.Sizes.{IsShort, AreShort, AreLowest}
use Rattle.um_num.specs.Views.{rational}

-- the whole number at a place, and 0 past the end
abbrev pub whole_at : List ℤ → ℕ → ℤ
whole_at nums j = slice_index_or nums j (pos 0)

-- each whole number over the denominator
abbrev pub numbers_of : ℤ → List ℤ → List Rational
numbers_of den nums = map (λ num. rational num den) nums

-- each whole number is in range
abbrev pub AreInRange : List ℤ → Type 0
AreInRange nums = (j : ℕ) → j < length nums → IsInRange (whole_at nums j)

-- each is a multiple of this number
abbrev pub AreMultiples : ℤ → List ℤ → Type 0
AreMultiples divisor nums = (j : ℕ) → j < length nums → unsigned_abs divisor ∣ unsigned_abs (whole_at nums j)

-- this number divides each
abbrev pub AreDividedBy : ℕ → List ℤ → Type 0
AreDividedBy d nums = (j : ℕ) → j < length nums → d ∣ unsigned_abs (whole_at nums j)

-- what a line is made of
pub record IsLine (den : ℤ) (nums : List ℤ) : Type 0 where
  pub positive : pos 1 ≤ℤ den
  pub den_in : IsInRange den
  pub nums_in : AreInRange nums

-- one of the numbers is minus one
abbrev pub HasMinusOne : List Rational → Type 0
HasMinusOne xs = (place : ℕ) × (place < length xs) × (number_at xs place ≡ neg (whole (pos 1)))

-- in lowest terms, the denominator of these numbers and the whole numbers above it are below 2^62 in size
abbrev pub IsShortLine : List Rational → Type 0
IsShortLine xs = (den : ℤ) (nums : List ℤ) → pos 1 ≤ℤ den → AreLowest den nums → numbers_of den nums ≡ xs → IsShort den × AreShort nums
