-- Whole numbers that are held in 64 or in 128 bits.
use Rattle.std.specs.Prelude.{◌≡◌, ℕ, ◌<◌, ◌^◌, ℤ, pos, ◌≤ℤ◌, neg_ℤ, List, length, IsTrue, if◌then◌else◌}
use Rattle.um_lines.specs.declared.nums.Nums.{Nums}
use Rattle.um_num.specs.Numbers.{IsInRange}
use Rattle.um_num.specs.Sizes.{AreLowest}
use Rattle.um_num.specs.Views.{rational}
use Rattle.um_lines.specs.declared.products.ShortFactors.{ShortFactors}
use Rattle.um_lines.specs.declared.whole.Factors.{Factors}
use Rattle.um_lines.specs.declared.sums.ShortSum.{ShortSum}
use Rattle.um_lines.specs.Lines.{whole_at, AreInRange}
use Rattle.um_lines.specs.Combined.{sum_at}
use Rattle.um_lines.specs.Turns.{AreWithin}

-- the numbers
abbrev pub nums_of : Nums → List ℤ
nums_of nums = if nums.is_short then nums.short.items else nums.long.items

-- what holds of them
pub record IsNums (nums : Nums) : Type 0 where
  pub long_fits : length nums.long.items ≡ length nums.short.items
  pub top : nums.top < 2 ^ 63
  pub within : IsTrue nums.is_short → AreWithin nums.top nums.short.items
  pub long_in : AreInRange nums.long.items

-- the same numbers
abbrev pub AreSameWholes : List ℤ → List ℤ → Type 0
AreSameWholes nums out = (j : ℕ) → j < length nums → whole_at out j ≡ whole_at nums j

-- the negatives of the numbers
abbrev pub AreTurned : List ℤ → List ℤ → Type 0
AreTurned nums out = (j : ℕ) → j < length nums → whole_at out j ≡ neg_ℤ (whole_at nums j)

-- over a denominator that is above 0
pub record IsHeld (den : ℤ) (nums : Nums) : Type 0 where
  pub positive : pos 1 ≤ℤ den
  pub den_in : IsInRange den
  pub held : IsNums nums

-- in lowest terms
pub record IsLowestHeld (den : ℤ) (nums : Nums) : Type 0 where
  pub line : IsHeld den nums
  pub lowest : AreLowest den (nums_of nums)

-- over the denominator, and in lowest terms, the numbers are the sums of the two rows, each times its factor, over theirs
pub record IsShortSum (factors : ShortFactors) (own other : List ℤ) (den : ℤ) (sum : List ℤ) (made : ShortSum) : Type 0 where
  pub positive : pos 1 ≤ℤ made.den
  pub den_in : IsInRange made.den
  pub lowest : AreLowest made.den sum
  pub within : AreWithin made.top sum
  pub short : made.top < 2 ^ 63
  pub value : (j : ℕ) → j < length own → rational (whole_at sum j) made.den ≡ rational (sum_at factors.own factors.other own other j) den

-- the same, of rows of any size
pub record IsAdded (factors : Factors) (own other : List ℤ) (den : ℤ) (made_den : ℤ) (sum : List ℤ) : Type 0 where
  pub positive : pos 1 ≤ℤ made_den
  pub den_in : IsInRange made_den
  pub lowest : AreLowest made_den sum
  pub value : (j : ℕ) → j < length own → rational (whole_at sum j) made_den ≡ rational (sum_at factors.own factors.other own other j) den
