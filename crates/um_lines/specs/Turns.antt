-- Sums of rows up to multiples of 2 ^ 64.
use Rattle.std.specs.Prelude.{◌≡◌, ℕ, ◌<◌, ◌≤◌, ◌^◌, ◌*◌, ◌%◌, ℤ, pos, ◌+ℤ◌, ◌*ℤ◌, ◌≤ℤ◌, List, length, unsigned_abs}
use Rattle.std.specs.Int.{w64, int_wrap}
use Rattle.um_lines.specs.declared.short.Turns.{Turns}
use Rattle.um_lines.specs.Lines.{whole_at}
use Rattle.um_lines.specs.Combined.{sum_at}

-- the sum of the two rows' numbers at a place, each times its factor, brought into 64 bits
abbrev pub wrapped_at : ℤ → ℤ → List ℤ → List ℤ → ℕ → ℤ
wrapped_at own_factor other_factor own other j = int_wrap w64 (sum_at own_factor other_factor own other j)

-- the sum of two numbers, each times its turn, brought into 64 bits
abbrev pub turned : Turns → ℤ → ℤ → ℤ
turned turns own other = int_wrap w64 (own *ℤ turns.own +ℤ other *ℤ turns.other)

-- a turn times the odd part of the divisor is the factor, up to multiples of 2 ^ 64
pub record IsTurns (own other : ℤ) (divisor : ℕ) (turns : Turns) : Type 0 where
  pub own_turn : int_wrap w64 (turns.own *ℤ turns.odd) ≡ own
  pub other_turn : int_wrap w64 (turns.other *ℤ turns.odd) ≡ other
  pub up : pos 0 ≤ℤ turns.odd
  pub split : unsigned_abs turns.odd * 2 ^ turns.shift ≡ divisor
  pub shift : turns.shift < 64

-- sizes that are multiples of the power of 2, over it, and short also with the odd part
pub record IsTopOver (turns : Turns) (sizes top : ℕ) : Type 0 where
  pub even : sizes % 2 ^ turns.shift ≡ 0
  pub short : sizes * unsigned_abs turns.odd < 2 ^ 63
  pub value : top * 2 ^ turns.shift ≡ sizes
  pub top_short : top < 2 ^ 63

-- each number is at most this in size
abbrev pub AreWithin : ℕ → List ℤ → Type 0
AreWithin top nums = (j : ℕ) → j < length nums → unsigned_abs (whole_at nums j) ≤ top

-- each number times the divisor is the sum of the two rows' numbers, each times its factor
abbrev pub AreSummedOver : ℕ → ℤ → ℤ → List ℤ → List ℤ → List ℤ → Type 0
AreSummedOver divisor own_factor other_factor own other sum = (j : ℕ) → j < length own → (whole_at sum j *ℤ pos divisor) ≡ sum_at own_factor other_factor own other j
