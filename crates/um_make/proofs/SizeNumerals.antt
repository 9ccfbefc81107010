-- Numerals that are put digit by digit.
use Rattle.std.proofs.Common.{◌≡◌, ◌≢◌, ℕ, zero, suc, ◌+◌, ◌-◌, ◌*◌, ◌/◌, ◌%◌, ◌^◌, ℤ, pos, negsuc, ◌≤ℤ◌, unsigned_abs, List, [], ◌∷◌, ◌++◌, append_assoc, refl, sym, ap, ◌∙◌, arith, rules}
use Rattle.std.proofs.Math.Nat.{div-div-eq-div-mul, pow-suc}
use Rattle.std.specs.Fmt.{decimal}
use Rattle.um_text.proofs.Puts.{next_put}
use Rattle.um_make.specs.Numerals.{last_digits, numeral, size_numeral}

pub from_zero_on : (k : ℕ) (z : ℤ) → pos 0 ≤ℤ z → numeral k z ≡ size_numeral k (unsigned_abs z)
unfolding numeral
from_zero_on k (pos n) h = refl
from_zero_on k (negsuc n) h = absurd (omega (arith, h))

below_zero : (k : ℕ) (z : ℤ) → ¬ pos 0 ≤ℤ z → numeral k z ≡ 45 ∷ size_numeral k (unsigned_abs z)
unfolding numeral
below_zero k (pos n) h = absurd (h (search rules))
below_zero k (negsuc n) h = refl

-- a minus, and then the numeral of the size
pub minus_put : (k n : ℕ) (z : ℤ) (t u v : List ℕ) → ¬ pos 0 ≤ℤ z → n ≡ unsigned_abs z → u ≡ t ++ 45 ∷ [] → v ≡ u ++ size_numeral k n → v ≡ t ++ numeral k z
minus_put k n z t u v below size e f = next_put t u v (45 ∷ []) (size_numeral k n) (numeral k z) e f (below_zero k z below ∙ ap (λ (m : ℕ). 45 ∷ size_numeral k m) (sym size))

-- the last digit comes behind those of a tenth
pub digit_more : (k n : ℕ) (t u v : List ℕ) → k ≢ 0 → u ≡ t ++ (decimal (n / 10 / 10 ^ (k - 1)) ++ 46 ∷ last_digits (k - 1) (n / 10)) → v ≡ u ++ (48 + n % 10) ∷ [] → v ≡ t ++ (decimal (n / 10 ^ k) ++ 46 ∷ last_digits k n)
digit_more zero n t u v some e f = absurd (some refl)
digit_more (suc k) n t u v some e f =
    let same : suc k - 1 ≡ k = omega arith in
    let e' = rw same at e in
    let power : 10 * 10 ^ k ≡ 10 ^ suc k = omega (arith, pow-suc 10 k) in
    let whole : n / 10 / 10 ^ k ≡ n / 10 ^ suc k = div-div-eq-div-mul n 10 (10 ^ k) ∙ ap (λ m. n / m) power in
    let digit : List ℕ = (48 + n % 10) ∷ [] in
    f
    ∙ ap (λ l. l ++ digit) e'
    ∙ append_assoc t (decimal (n / 10 / 10 ^ k) ++ 46 ∷ last_digits k (n / 10)) digit
    ∙ ap (λ l. t ++ l) (append_assoc (decimal (n / 10 / 10 ^ k)) (46 ∷ last_digits k (n / 10)) digit)
    ∙ ap (λ m. t ++ (decimal m ++ 46 ∷ (last_digits k (n / 10) ++ digit))) whole
