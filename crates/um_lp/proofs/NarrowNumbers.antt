-- What is small in numbers that are not wide.
use Rattle.std.proofs.Common.{◌≡◌, ℕ, zero, suc, ◌*◌, ◌/◌, ◌<◌, ◌≤◌, ◌^◌, List, length, arith, sym, ap, ◌∙◌, refl, Bool, true, false, ◌||◌, inl, inr}
use Rattle.std.specs.Prelude.{nat_le}
use Rattle.std.specs.List.{list_any}
use Rattle.std.proofs.lemmas.Bool.{cases_Bool, leb-false, lt-leb}
use Rattle.std.proofs.lemmas.List.Folds.{list_any_at, list_any_none}
use Rattle.std.proofs.lemmas.List.Elements.{All-from_get_or}
use Rattle.std.proofs.Math.Nat.{div-mul_cancel}
use lib.IntN.{nat_abs}
use Rattle.um_laws.specs.Rational.{Rational}
use Rattle.um_laws.proofs.RationalBounds.{Below}
use Rattle.um_num.specs.NumberLists.{number_at}
use Rattle.um_lp.specs.WideStates.{common_denominator, is_large_over, AreNarrow}
use Rattle.um_lp.proofs.Denominators.{den_divides, denominator_positive}

pub neither : (b c : Bool) → (b || c) ≡ false → (b ≡ false) × (c ≡ false)
neither true c e = cc
neither false c e = (refl, e)

-- the common denominator is below 2^62
pub narrow_den : (xs : List Rational) → AreNarrow xs → common_denominator xs < 2 ^ 62
narrow_den xs h = leb-false (2 ^ 62) (common_denominator xs) (neither _ _ h).0

-- and so is each numerator over it
pub narrow_num : (xs : List Rational) (i : ℕ) → i < length xs → AreNarrow xs → nat_abs (number_at xs i).num * (common_denominator xs / (number_at xs i).den) < 2 ^ 62
narrow_num xs i l h =
    elim (cases_Bool (is_large_over (common_denominator xs) (number_at xs i))) [
      | inl t ↦
          let some : list_any (is_large_over (common_denominator xs)) xs ≡ true = list_any_at (is_large_over (common_denominator xs)) xs i _ l t in
          let none : list_any (is_large_over (common_denominator xs)) xs ≡ false = (neither _ _ h).1 in
          let apart : true ≡ false = sym some ∙ none in
          absurd cc
      | inr f ↦ leb-false (2 ^ 62) _ f
    ]

-- numbers with these bounds are narrow
pub narrow_from : (xs : List Rational) → common_denominator xs < 2 ^ 62 → ((i : ℕ) → i < length xs → nat_abs (number_at xs i).num * (common_denominator xs / (number_at xs i).den) < 2 ^ 62) → AreNarrow xs
narrow_from xs den nums =
    let small : nat_le (2 ^ 62) (common_denominator xs) ≡ false = lt-leb (2 ^ 62) (common_denominator xs) den in
    let none : list_any (is_large_over (common_denominator xs)) xs ≡ false = list_any_none _ xs (All-from_get_or (λ (x : Rational). is_large_over (common_denominator xs) x ≡ false) xs _ (λ i l. lt-leb (2 ^ 62) _ (nums i l))) in
    ap (λ (b : Bool). b || list_any (is_large_over (common_denominator xs)) xs) small ∙ none

-- a factor of at least 1 makes nothing less
le_times : (a k : ℕ) → 0 < k → a ≤ a * k
le_times a zero h = absurd (omega arith)
le_times a (suc k) h = omega arith

over_positive : (a q m : ℕ) → q * a ≡ m → 0 < m → 0 < q
over_positive a zero m e l = absurd (omega arith)
over_positive a (suc q) m e l = omega arith

-- each number of a narrow list has parts below 2^62
pub narrow_below : (xs : List Rational) (i : ℕ) → i < length xs → AreNarrow xs → Below (2 ^ 62) (number_at xs i)
narrow_below xs i l h =
    let x : Rational = number_at xs i in
    let C : ℕ = common_denominator xs in
    let e : C / x.den * x.den ≡ C = div-mul_cancel x.den (den_divides xs i _ l) in
    let up : 0 < C / x.den = over_positive x.den (C / x.den) C e (denominator_positive xs) in
    let n = le_times (nat_abs x.num) (C / x.den) up in
    let d = le_times x.den (C / x.den) up in
    record { num = let b = narrow_num xs i l h in omega arith; den = let b = narrow_den xs h in omega arith }
