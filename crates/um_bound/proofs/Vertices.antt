-- The whole number nearest to a vertex lies between two ends that the vertex lies between.
use Rattle.std.proofs.Common.{◌≡◌, ◌∙◌, ap, sym, refl, ℕ, ◌*◌, ◌<◌, zero, suc, ℤ, pos, negsuc, neg_ℤ, ◌+ℤ◌, ◌-ℤ◌, ◌*ℤ◌, ◌≤ℤ◌, ◌<ℤ◌, unsigned_abs, arith}
use Rattle.std.specs.Int.{int_div_euclid}
use Rattle.std.proofs.lemmas.Int.{ints, by_lt_z}
use Rattle.um_laws.proofs.Polynomials.{term, number, ◌⊕◌, ◌⊖◌, ◌⊗◌, at_most_of, below_of}
use Rattle.um_laws.proofs.WholeLaws.{*ℤ-mono}
use Rattle.um_model.specs.Rounding.{floor_div}
use Rattle.um_model.specs.LeafValue.{half_slope, nearest}

-- the quotient that the program takes is the one rounded down
pub euclid_is : (a : ℤ) (n : ℕ) → 0 < n → int_div_euclid a (pos n) ≡ floor_div a n
euclid_is a zero h = absurd (omega arith)
euclid_is (pos a) (suc n) h = refl
euclid_is (negsuc a) (suc n) h = refl

-- the negative of the quotient q of 1000 * l + s by 2 * s is between the ends, where the half slopes have their signs
module _ (l s q low high : ℤ) (up : pos 0 <ℤ s) (falls : half_slope l s low <ℤ pos 0) (rises : pos 0 <ℤ half_slope l s high)
    (at_most : (q *ℤ (pos 2 *ℤ s)) ≤ℤ (pos 1000 *ℤ l +ℤ s)) (above : (pos 1000 *ℤ l +ℤ s) <ℤ ((q +ℤ pos 1) *ℤ (pos 2 *ℤ s))) where
  pub not_below : low ≤ℤ neg_ℤ q
  not_below = by_lt_z (neg_ℤ low) q
      (λ past.
      let more : (pos 2 *ℤ s *ℤ (pos 1 -ℤ low)) ≤ℤ (pos 2 *ℤ s *ℤ q) = *ℤ-mono (pos 2 *ℤ s) (pos 1 -ℤ low) q (omega (arith, ints)) (omega (arith, ints, past)) in
      absurd
      (omega (
        arith,
        at_most_of (number 2 ⊗ term s ⊗ (number 1 ⊖ term low)) (number 2 ⊗ term s ⊗ term q) more,
        at_most_of (term q ⊗ (number 2 ⊗ term s)) (number 1000 ⊗ term l ⊕ term s) at_most,
        below_of (number 500 ⊗ term l ⊕ term s ⊗ term low) (number 0) falls,
        below_of (number 0) (term s) up,
      )))
      (λ there. omega (arith, ints, there))

  pub not_above : neg_ℤ q ≤ℤ high
  not_above = by_lt_z q (neg_ℤ high)
      (λ past.
      let more : (pos 2 *ℤ s *ℤ (q +ℤ pos 1)) ≤ℤ (pos 2 *ℤ s *ℤ (pos 0 -ℤ high)) = *ℤ-mono (pos 2 *ℤ s) (q +ℤ pos 1) (pos 0 -ℤ high) (omega (arith, ints)) (omega (arith, ints, past)) in
      absurd
      (omega (
        arith,
        at_most_of (number 2 ⊗ term s ⊗ (term q ⊕ number 1)) (number 2 ⊗ term s ⊗ (number 0 ⊖ term high)) more,
        below_of (number 1000 ⊗ term l ⊕ term s) ((term q ⊕ number 1) ⊗ (number 2 ⊗ term s)) above,
        below_of (number 0) (number 500 ⊗ term l ⊕ term s ⊗ term high) rises,
        below_of (number 0) (term s) up,
      )))
      (λ there. omega (arith, ints, there))

-- ---- what the program computes

double_is : (n : ℕ) → pos 2 *ℤ pos n ≡ pos (2 * n)
double_is n = omega (arith, ints)

twice_turned : (z : ℤ) → neg_ℤ (neg_ℤ z) ≡ z
twice_turned z = omega (arith, ints)

-- the negative of the quotient is the nearest number
pub nearest_is : (l s q : ℤ) → pos 0 <ℤ s → q ≡ int_div_euclid (pos 1000 *ℤ l +ℤ s) (pos 2 *ℤ s) → neg_ℤ q ≡ nearest l (unsigned_abs s)
nearest_is l (pos zero) q up e = absurd (omega (arith, ints))
nearest_is l (negsuc n) q up e = absurd (omega (arith, ints))
nearest_is l (pos (suc n)) q up e =
    let z : ℤ = pos 1000 *ℤ l +ℤ pos (suc n) in
    ap neg_ℤ (e ∙ ap (int_div_euclid z) (double_is (suc n)) ∙ euclid_is z (2 * suc n) (omega arith) ∙ ap (λ (x : ℤ). floor_div x (2 * suc n)) (sym (twice_turned z)))
