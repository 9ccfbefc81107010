-- The words that numbers are written as.
use Rattle.std.specs.Prelude.{ℕ, Bool, nat_eq, if◌then◌else◌, List, ◌∷◌, ◌++◌, Option, Some, None, codes, decimal}
use Rattle.std.specs.Fmt.{signed_decimal}
use Rattle.um_laws.specs.Rational.{Rational}

-- `/`
abbrev pub is_slash : ℕ → Bool
is_slash b = nat_eq b 47

-- a whole number is its numeral; any other fraction is its two parts with `/` between
abbrev pub fraction_word : Rational → List ℕ
fraction_word x = if nat_eq x.den 1 then signed_decimal x.num else signed_decimal x.num ++ 47 ∷ decimal x.den

abbrev pub fraction_or_none : Option Rational → List ℕ
fraction_or_none None = codes "none"
fraction_or_none (Some x) = fraction_word x
