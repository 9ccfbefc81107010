-- Fractions as whole numbers over their least common denominator.
use Rattle.std.specs.Prelude.{ℕ, ◌+◌, ◌/◌, nat_eq, ℤ, pos, ◌*ℤ◌, unsigned_abs, if◌then◌else◌, List, [], ◌∷◌, map}
use Rattle.um_laws.specs.Divisors.{gcd}
use Rattle.um_laws.specs.Rational.{Rational}
use Rattle.um_lp.specs.WideStates.{common_denominator}
use Rattle.um_multipliers.specs.declared.multipliers.Price.{Price}

-- the number times a multiple of its denominator
abbrev pub times : ℕ → Rational → ℤ
times multiple x = x.num *ℤ pos (multiple / x.den)

-- the numbers times their least common denominator
abbrev pub whole_multiples : List Rational → List ℤ
whole_multiples numbers = map (times (common_denominator numbers)) numbers

-- the greatest common divisor of the sizes of whole numbers, and 0 of zeros alone
abbrev pub common_divisor : List ℤ → ℕ
common_divisor [] = 0
common_divisor (z ∷ zs) = gcd (unsigned_abs z) (common_divisor zs)

-- multipliers in normal form: one for each number from this row on that is not 0
abbrev pub prices_from : ℕ → List ℤ → List Price
prices_from row [] = []
prices_from row (z ∷ zs) = if nat_eq (unsigned_abs z) 0 then prices_from (row + 1) zs else record { row = row; value = z } ∷ prices_from (row + 1) zs
