-- A point has one objective, and a leaf's bound is below that of no feasible point of its box.
use Rattle.std.proofs.Common.{◌-ℤ◌, ◌≡◌, ℕ, ◌*◌, ◌^◌, ◌<◌, ℤ, pos, negsuc, ◌*ℤ◌, ◌≤ℤ◌, ◌<ℤ◌, unsigned_abs, sym, ◌∙◌, ap, subst, arith}
use lib.IntN.{pos-*ℤ-pos}
use Rattle.std.proofs.lemmas.Int.{ints}
use Rattle.um_laws.specs.Rational.{Rational, Is}
use Rattle.um_laws.proofs.RationalParts.{is_reduce, same_value}
use Rattle.um_laws.proofs.WholeLaws.{*ℤ-mono, times_pos}
use Rattle.um_laws.proofs.Polynomials.{Polynomial, term, number, ◌⊖◌, ◌⊗◌, same, at_most, at_most_of}
use Rattle.um_model.specs.Values.{DeckValue, PointValue}
use Rattle.um_model.specs.Objective.{objective, objective_times, objective_over, HasObjective}
use Rattle.um_model.specs.LeafValue.{leaf_bound, Reaches}
use Rattle.um_soundness.specs.Laws.{ObjectiveLaw, LeafBoundLaw}
use Rattle.um_soundness.proofs.Moving.{ten_up}
use Rattle.um_soundness.proofs.Scaling.{square_abs, abs_up, cancel_le}
use Rattle.um_soundness.proofs.Curves.{both_up}
use Rattle.um_soundness.proofs.Leaves.{closed-leaf-law}

-- the denominator of an objective
over : DeckValue → PointValue → ℕ
over d p = unsigned_abs p.den * unsigned_abs p.den * 10 ^ d.scale

over_is : (d : DeckValue) (p : PointValue) → pos 1 ≤ℤ p.den → pos (over d p) ≡ objective_over d p
unfolding over
over_is d p h = sym (pos-*ℤ-pos (unsigned_abs p.den * unsigned_abs p.den) (10 ^ d.scale)) ∙ ap (λ (z : ℤ). z *ℤ pos (10 ^ d.scale)) (square_abs p.den h)

over_up : (d : DeckValue) (p : PointValue) → pos 1 ≤ℤ p.den → 0 < over d p
unfolding over
over_up d p h = times_pos (unsigned_abs p.den * unsigned_abs p.den) (10 ^ d.scale) (times_pos (unsigned_abs p.den) (unsigned_abs p.den) (abs_up p.den h) (abs_up p.den h)) (ten_up d.scale)

objective_is : (d : DeckValue) (p : PointValue) → pos 1 ≤ℤ p.den → Is (objective d p) (objective_times d p) (over d p)
unfolding over
objective_is d p h = is_reduce (objective_times d p) (over d p) (over_up d p h)

pub objective-law : ObjectiveLaw
objective-law d p v h = (there, back)
  where
    there : HasObjective d p v → objective d p ≡ v
    there has = same_value (objective d p) v (objective_times d p) (over d p) (over_up d p h) (objective_is d p h) (ap (λ (z : ℤ). v.num *ℤ z) (over_is d p h) ∙ sym has)

    back : objective d p ≡ v → HasObjective d p v
    back e = subst (HasObjective d p) e (sym (objective_is d p h) ∙ ap (λ (z : ℤ). (objective d p).num *ℤ z) (over_is d p h))

-- a bound reaches itself
pub bound_reaches : (d : DeckValue) (y0 value : ℤ) → pos 0 <ℤ y0 → Reaches d y0 value (leaf_bound d y0 value) (pos 0)
bound_reaches d (negsuc n) value h = absurd (omega (arith, ints))
bound_reaches d (pos n) value h =
    let v : Rational = leaf_bound d (pos n) value in
    let S : ℕ = 10 ^ d.scale in
    let is : v.num *ℤ pos (1000 * n * S) ≡ value *ℤ pos v.den = is_reduce value (1000 * n * S) (times_pos (1000 * n) S (omega (arith, ints)) (ten_up d.scale)) in
    let over : pos (1000 * n * S) ≡ pos 1000 *ℤ pos n *ℤ pos S = sym (pos-*ℤ-pos (1000 * n) S) ∙ ap (λ (z : ℤ). z *ℤ pos S) (sym (pos-*ℤ-pos 1000 n)) in
    let is' : v.num *ℤ (pos 1000 *ℤ pos n *ℤ pos S) ≡ value *ℤ pos v.den = ap (λ (z : ℤ). v.num *ℤ z) (sym over) ∙ is in
    let left = same (term (pos n) ⊗ term (pos S) ⊗ (number 1000 ⊗ term v.num ⊖ number 0 ⊗ term (pos v.den))) (term v.num ⊗ (number 1000 ⊗ term (pos n) ⊗ term (pos S))) (omega arith) in
    omega (arith, ints, left ∙ is')

-- what reaches a number reaches each one that is not above it
pub reaches_below : (d : DeckValue) (y0 value t : ℤ) (v w : Rational) → pos 0 ≤ℤ y0 → Reaches d y0 value w t → (v.num *ℤ pos w.den) ≤ℤ (w.num *ℤ pos v.den) → Reaches d y0 value v t
reaches_below d y0 value t v w h reaches below =
    let S : ℤ = pos (10 ^ d.scale) in
    let e : ℤ = pos w.den in
    let f : ℤ = pos v.den in
    let wide = both_up y0 S h (omega (arith, ints)) in
    let a = *ℤ-mono (y0 *ℤ S) (v.num *ℤ e) (w.num *ℤ f) wide below in
    let b = *ℤ-mono f (y0 *ℤ S *ℤ (pos 1000 *ℤ w.num -ℤ t *ℤ e)) (value *ℤ e) (omega (arith, ints)) reaches in
    let Y : Polynomial = term y0 ⊗ term S in
    let E : Polynomial = term e in
    let F : Polynomial = term f in
    let one : pos 1 ≤ℤ e = let g = w.positive in omega (arith, ints) in
    cancel_le e (y0 *ℤ S *ℤ (pos 1000 *ℤ v.num -ℤ t *ℤ f)) (value *ℤ f) one
    (at_most (E ⊗ (Y ⊗ (number 1000 ⊗ term v.num ⊖ term t ⊗ F))) (E ⊗ (term value ⊗ F))
    (omega (arith, at_most_of (Y ⊗ (term v.num ⊗ E)) (Y ⊗ (term w.num ⊗ F)) a, at_most_of (F ⊗ (Y ⊗ (number 1000 ⊗ term w.num ⊖ term t ⊗ E))) (F ⊗ (term value ⊗ E)) b)))

pub leaf-bound-law : LeafBoundLaw
leaf-bound-law d b y value p h is f inside = closed-leaf-law d b y (leaf_bound d y.y0 value) (pos 0) p (record { y0 = h; value = value; value_is = is; reaches = bound_reaches d y.y0 value h }) f inside
