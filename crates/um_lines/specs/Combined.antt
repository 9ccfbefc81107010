-- Sums of rows of whole numbers.
use Rattle.std.specs.Prelude.{◌≡◌, ℕ, ◌<◌, ℤ, pos, ◌≤ℤ◌, ◌+ℤ◌, ◌*ℤ◌, List, length, unsigned_abs}
use Rattle.std.specs.Int.{◌∣◌}
use Rattle.um_num.specs.Numbers.{IsInRange}
use Rattle.um_lines.specs.Lines.{whole_at}
use Rattle.um_lines.specs.declared.whole.Factors.{Factors}

-- the sum of the two rows' numbers at a place, each times its factor
abbrev pub sum_at : ℤ → ℤ → List ℤ → List ℤ → ℕ → ℤ
sum_at own_factor other_factor own other j = (whole_at own j *ℤ own_factor) +ℤ (whole_at other j *ℤ other_factor)

-- each number is that sum
abbrev pub AreCombined : Factors → List ℤ → List ℤ → List ℤ → Type 0
AreCombined factors own other sum = (j : ℕ) → j < length own → whole_at sum j ≡ sum_at factors.own factors.other own other j

-- what divides the denominator and all the sums divides this number, which divides the denominator
pub record IsGuess (den : ℤ) (sums : ℕ → ℤ) (count : ℕ) (guess : ℤ) : Type 0 where
  pub positive : pos 1 ≤ℤ guess
  pub range : IsInRange guess
  pub divides : unsigned_abs guess ∣ unsigned_abs den
  pub greatest : (d : ℕ) → d ∣ unsigned_abs den → ((j : ℕ) → j < count → d ∣ unsigned_abs (sums j)) → d ∣ unsigned_abs guess
