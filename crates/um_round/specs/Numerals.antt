-- The numbers that numerals with a point are.
use Rattle.std.specs.Prelude.{ℕ, suc, ℤ, pos, negsuc, neg_ℤ, false, true}
use Rattle.um_num.specs.declared.decimal.Decimal.{Decimal}
use Rattle.um_text.specs.Decimals.{normal}

-- z / 10 ^ k as a decimal number
abbrev pub written : (k : ℕ) → ℤ → Decimal
written k (pos n) = normal false n (neg_ℤ (pos k))
written k (negsuc n) = normal true (suc n) (neg_ℤ (pos k))
