-- Numerals with a point: without exponent, and without a 0 at the end of their decimals.
use Rattle.std.specs.Prelude.{ℕ, zero, suc, ◌+◌, ◌/◌, ◌%◌, ◌^◌, ℤ, pos, negsuc, nat_eq, List, [], ◌∷◌, ◌++◌, if◌then◌else◌}
use Rattle.std.specs.Fmt.{decimal}

-- the last k digits of a number
abbrev pub last_digits : (k n : ℕ) → List ℕ
last_digits zero n = []
last_digits (suc k) n = last_digits k (n / 10) ++ (48 + n % 10) ∷ []

-- n / 10 ^ k: without a point where it is whole, else without a 0 at its end
abbrev pub size_numeral : (k n : ℕ) → List ℕ
size_numeral zero n = decimal n
size_numeral (suc k) n = if nat_eq (n % 10) 0 then size_numeral k (n / 10) else decimal (n / 10 ^ suc k) ++ 46 ∷ last_digits (suc k) n

-- the numeral of z / 10 ^ k
unfoldable pub numeral : (k : ℕ) → ℤ → List ℕ
numeral k (pos n) = size_numeral k n
numeral k (negsuc n) = 45 ∷ size_numeral k (suc n)
