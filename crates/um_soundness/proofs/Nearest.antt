-- The whole number nearest to a curve's vertex, and rounded quotients.
use Rattle.std.proofs.Common.{◌≡◌, ◌*◌, ◌≤◌, ℤ, pos, neg_ℤ, ◌+ℤ◌, ◌-ℤ◌, ◌*ℤ◌, ◌≤ℤ◌, ◌<ℤ◌, unsigned_abs, ap, ◌∙◌, arith}
use Rattle.std.proofs.lemmas.Int.{ints, by_lt_z}
use Rattle.um_laws.proofs.WholeLaws.{*ℤ-mono}
use Rattle.um_laws.proofs.Polynomials.{term, number, ◌⊕◌, ◌⊖◌, ◌⊗◌, same}
use Rattle.um_model.specs.Rounding.{floor_div, ceil_div}
use Rattle.um_model.specs.LeafValue.{half_slope, nearest}
use Rattle.um_soundness.specs.Laws.{RoundingLaw, NearestLaw}
use Rattle.um_soundness.proofs.Rounding.{floor_is, ceil_is}
use Rattle.um_soundness.proofs.Curves.{nearest_high, nearest_low}

pub rounding-law : RoundingLaw
rounding-law z n h =
    let f = floor_is z n h in
    let c = ceil_is z n h in
    let more = same ((term (floor_div z n) ⊕ number 1) ⊗ number n) (term (floor_div z n) ⊗ number n ⊕ number n) (omega arith) in
    let less = same ((term (ceil_div z n) ⊖ number 1) ⊗ number n) (term (ceil_div z n) ⊗ number n ⊖ number n) (omega arith) in
    (f.at_most, omega (arith, ints, more, f.above), c.at_least, omega (arith, ints, less, c.below))

size_up : (s e m : ℤ) → (pos 2 *ℤ s) <ℤ e → neg_ℤ e ≤ℤ (pos 2 *ℤ s) → (s +ℤ e) ≤ℤ m → unsigned_abs s ≤ unsigned_abs m
size_up s e m high low b = omega (arith, ints)

-- s: half of the slope at t; e: the square
nearer : (s e m t x : ℤ) → pos 0 <ℤ e → (pos 2 *ℤ s) <ℤ e → neg_ℤ e ≤ℤ (pos 2 *ℤ s) → m ≡ s +ℤ e *ℤ (x -ℤ t) → (unsigned_abs s ≤ unsigned_abs m) × (unsigned_abs s ≡ unsigned_abs m → t ≤ℤ x)
nearer s e m t x positive high low is =
    by_lt_z x t
    (λ (l : x <ℤ t).
    let k = *ℤ-mono e (x -ℤ t) (neg_ℤ (pos 1)) (omega (arith, ints)) (omega (arith, ints)) in
    let b : m ≤ℤ (s -ℤ e) = omega (arith, ints, k) in
    (grind (arith, ints), λ g. absurd (grind (arith, ints))))
    (λ (g : t ≤ℤ x). by_lt_z t x
    (λ (l : t <ℤ x).
    let k = *ℤ-mono e (pos 1) (x -ℤ t) (omega (arith, ints)) (omega (arith, ints)) in
    let b : (s +ℤ e) ≤ℤ m = omega (arith, ints, k) in
    (size_up s e m high low b, λ _. g))
    (λ (l : x ≤ℤ t).
    let z : x -ℤ t ≡ pos 0 = omega (arith, ints) in
    let f : m ≡ s = is ∙ ap (λ (w : ℤ). s +ℤ e *ℤ w) z ∙ (let n : s +ℤ e *ℤ pos 0 ≡ s = omega (arith, ints) in n) in
    (rw f (omega arith), λ _. g)))

pub nearest-law : NearestLaw
nearest-law linear square x h =
    let t : ℤ = nearest linear square in
    let c = ceil_is (neg_ℤ (pos 1000 *ℤ linear +ℤ pos square)) (2 * square) (omega arith) in
    nearer (half_slope linear (pos square) t) (pos square) (half_slope linear (pos square) x) t x (omega (arith, ints)) (nearest_high linear square t c) (nearest_low linear square t c)
    (same (number 500 ⊗ term linear ⊕ term (pos square) ⊗ term x) (number 500 ⊗ term linear ⊕ term (pos square) ⊗ term t ⊕ term (pos square) ⊗ (term x ⊖ term t)) (omega arith))
