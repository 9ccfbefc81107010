-- States with large numbers: where an operation on them may leave the range.
use Rattle.std.specs.Prelude.{◌≡◌, ℕ, ◌*◌, ◌/◌, ◌^◌, nat_le, Bool, false, ◌||◌, List, [], ◌∷◌, ◌++◌}
use Rattle.std.specs.List.{list_any}
use lib.IntN.{nat_abs}
use Rattle.um_laws.specs.Divisors.{gcd}
use Rattle.um_laws.specs.Rational.{Rational}
use Rattle.um_lp.specs.States.{State}

-- the least common multiple of two numbers
abbrev pub common : ℕ → ℕ → ℕ
common a b = a / gcd a b * b

-- the least common denominator of numbers
abbrev pub common_denominator : List Rational → ℕ
common_denominator [] = 1
common_denominator (x ∷ xs) = common x.den (common_denominator xs)

-- the numbers of all rows in one list
abbrev pub joined : List (List Rational) → List Rational
joined [] = []
joined (row ∷ rows) = row ++ joined rows

-- the entries, reduced costs and values of a state
abbrev pub numbers_of : State → List Rational
numbers_of s = joined s.entries ++ s.reduced ++ s.values

-- the numerator of a number over a multiple of its denominator is 2^62 or more in size
abbrev pub is_large_over : ℕ → Rational → Bool
is_large_over denominator x = nat_le (2 ^ 62) (nat_abs x.num * (denominator / x.den))

-- over their least common denominator, that denominator or one of the numerators is 2^62 or more in size
abbrev pub are_wide : List Rational → Bool
are_wide numbers = nat_le (2 ^ 62) (common_denominator numbers) || list_any (is_large_over (common_denominator numbers)) numbers

-- the numbers are not wide
abbrev pub AreNarrow : List Rational → Type 0
AreNarrow numbers = are_wide numbers ≡ false

-- the numbers of the state are wide
unfoldable pub is_wide : State → Bool
is_wide s = are_wide (numbers_of s)
