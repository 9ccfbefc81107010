-- The least value of a curve between two ends: at a fraction u / q the curve is not below it.
use Rattle.std.proofs.Common.{◌≡◌, ℕ, ◌*◌, ◌<◌, zero, suc, ℤ, pos, negsuc, neg_ℤ, ◌+ℤ◌, ◌-ℤ◌, ◌*ℤ◌, ◌≤ℤ◌, ◌<ℤ◌, Bool, true, false, cond, ◌⊎◌, inl, inr, refl, sym, ◌∙◌, ap, subst, arith, unsigned_abs}
use Rattle.std.specs.Prelude.{int_le, int_lt, if◌then◌else◌}
use Rattle.std.specs.Int.{int_min}
use Rattle.std.proofs.lemmas.Int.{ints, by_lt_z}
use Rattle.um_laws.proofs.WholeLaws.{*ℤ-mono, *ℤ-anti}
use Rattle.um_laws.proofs.Polynomials.{Polynomial, term, number, ◌⊕◌, ◌⊖◌, ◌⊗◌, same, at_most, at_most_of, below, below_of}
use Rattle.um_model.specs.Rounding.{ceil_div}
use Rattle.um_model.specs.LeafValue.{curve, half_slope, nearest, vertex_margin, near_vertex, curve_least}
use Rattle.um_soundness.proofs.Rounding.{IsCeil, ceil_is}

-- the curve at u / q, times q * q
abbrev pub curve_over : ℤ → ℤ → ℤ → ℤ → ℤ
curve_over d e q u = pos 1000 *ℤ d *ℤ (u *ℤ q) +ℤ e *ℤ (u *ℤ u)

-- ---- signs of products
pub both_up : (a b : ℤ) → pos 0 ≤ℤ a → pos 0 ≤ℤ b → pos 0 ≤ℤ (a *ℤ b)
both_up a b h k = at_most (number 0) (term a ⊗ term b) (omega (arith, at_most_of (term a ⊗ number 0) (term a ⊗ term b) (*ℤ-mono a (pos 0) b h k)))

pub both_down : (a b : ℤ) → a ≤ℤ pos 0 → b ≤ℤ pos 0 → pos 0 ≤ℤ (a *ℤ b)
both_down a b h k = at_most (number 0) (term a ⊗ term b) (omega (arith, at_most_of (term a ⊗ number 0) (term a ⊗ term b) (*ℤ-anti a b (pos 0) h k)))

pub down_up : (a b : ℤ) → a ≤ℤ pos 0 → pos 0 ≤ℤ b → (a *ℤ b) ≤ℤ pos 0
down_up a b h k = at_most (term a ⊗ term b) (number 0) (omega (arith, at_most_of (term a ⊗ term b) (term a ⊗ number 0) (*ℤ-anti a (pos 0) b h k)))

pub square_up : (a : ℤ) → pos 0 ≤ℤ (a *ℤ a)
square_up a = by_lt_z a (pos 0) (λ (n : a <ℤ pos 0). both_down a a (omega (arith, ints)) (omega (arith, ints))) (λ (p : pos 0 ≤ℤ a). both_up a a p p)

-- ---- the curve at u / q less that at x
pub gap_is : (d e q u x : ℤ) → curve_over d e q u -ℤ curve d e x *ℤ (q *ℤ q) ≡ (u -ℤ x *ℤ q) *ℤ (pos 2 *ℤ (q *ℤ half_slope d e x) +ℤ e *ℤ (u -ℤ x *ℤ q))
gap_is d e q u x =
    let D : Polynomial = number 1000 ⊗ term d in
    let Q : Polynomial = term q in
    let U : Polynomial = term u in
    let X : Polynomial = term x in
    let chord = same (D ⊗ (U ⊗ Q) ⊕ term e ⊗ (U ⊗ U) ⊖ (D ⊗ X ⊕ term e ⊗ (X ⊗ X)) ⊗ (Q ⊗ Q)) ((U ⊖ X ⊗ Q) ⊗ (D ⊗ Q ⊕ term e ⊗ (U ⊕ X ⊗ Q))) (omega arith) in
    let slope = same (D ⊗ Q ⊕ term e ⊗ (U ⊕ X ⊗ Q)) (number 2 ⊗ (Q ⊗ (number 500 ⊗ term d ⊕ term e ⊗ X)) ⊕ term e ⊗ (U ⊖ X ⊗ Q)) (omega arith) in
    chord ∙ ap (λ (z : ℤ). (u -ℤ x *ℤ q) *ℤ z) slope

-- where the chord's slope has the sign of the gap, the curve is not below
above_by_gap : (d e q u x : ℤ) → pos 0 ≤ℤ ((u -ℤ x *ℤ q) *ℤ (pos 2 *ℤ (q *ℤ half_slope d e x) +ℤ e *ℤ (u -ℤ x *ℤ q))) → (curve d e x *ℤ (q *ℤ q)) ≤ℤ curve_over d e q u
above_by_gap d e q u x h = let g = gap_is d e q u x in omega (arith, ints, subst (λ (z : ℤ). pos 0 ≤ℤ z) (sym g) h)

-- a curve that opens downwards is least at an end
pub concave : (d e q u lo hi : ℤ) → e ≤ℤ pos 0 → (lo *ℤ q) ≤ℤ u → u ≤ℤ (hi *ℤ q)
    → ((curve d e lo *ℤ (q *ℤ q)) ≤ℤ curve_over d e q u) ⊎ ((curve d e hi *ℤ (q *ℤ q)) ≤ℤ curve_over d e q u)
concave d e q u lo hi neg low high =
    let slope = λ (x : ℤ). pos 2 *ℤ (q *ℤ half_slope d e x) +ℤ e *ℤ (u -ℤ x *ℤ q) in
    by_lt_z (slope lo) (pos 0)
    (λ (n : slope lo <ℤ pos 0). inr (above_by_gap d e q u hi (both_down (u -ℤ hi *ℤ q) (slope hi) (omega (arith, ints))
    (let w = down_up e (hi *ℤ q -ℤ lo *ℤ q) neg (omega (arith, ints)) in
    let H : ℤ → Polynomial = λ x. number 2 ⊗ (term q ⊗ (number 500 ⊗ term d ⊕ term e ⊗ term x)) ⊕ term e ⊗ (term u ⊖ term x ⊗ term q) in
    let s = same (H hi) (H lo ⊕ term e ⊗ (term hi ⊗ term q ⊖ term lo ⊗ term q)) (omega arith) in
    omega (arith, ints, s, w)))))
    (λ (p : pos 0 ≤ℤ slope lo). inl (above_by_gap d e q u lo (both_up (u -ℤ lo *ℤ q) (slope lo) (omega (arith, ints)) p)))

-- a curve that opens upwards, with its vertex at the low end or below it
pub rising : (d e q u lo : ℤ) → pos 0 ≤ℤ e → pos 0 ≤ℤ q → (lo *ℤ q) ≤ℤ u → pos 0 ≤ℤ half_slope d e lo → (curve d e lo *ℤ (q *ℤ q)) ≤ℤ curve_over d e q u
rising d e q u lo convex positive low vertex =
    let a = both_up q (half_slope d e lo) positive vertex in
    let b = both_up e (u -ℤ lo *ℤ q) convex (omega (arith, ints)) in
    above_by_gap d e q u lo (both_up (u -ℤ lo *ℤ q) _ (omega (arith, ints)) (omega (arith, ints, a, b)))

-- the same with its vertex at the high end or above it
pub falling : (d e q u hi : ℤ) → pos 0 ≤ℤ e → pos 0 ≤ℤ q → u ≤ℤ (hi *ℤ q) → half_slope d e hi ≤ℤ pos 0 → (curve d e hi *ℤ (q *ℤ q)) ≤ℤ curve_over d e q u
falling d e q u hi convex positive high vertex =
    let a = *ℤ-mono q (half_slope d e hi) (pos 0) positive vertex in
    let b = *ℤ-mono e (u -ℤ hi *ℤ q) (pos 0) convex (omega (arith, ints)) in
    above_by_gap d e q u hi (both_down (u -ℤ hi *ℤ q) _ (omega (arith, ints)) (omega (arith, ints, a, b)))

-- at the vertex
pub at_vertex : (d e q u t : ℤ) → pos 0 ≤ℤ e → half_slope d e t ≡ pos 0 → (curve d e t *ℤ (q *ℤ q)) ≤ℤ curve_over d e q u
at_vertex d e q u t convex flat =
    let m = both_up e ((u -ℤ t *ℤ q) *ℤ (u -ℤ t *ℤ q)) convex (square_up (u -ℤ t *ℤ q)) in
    let U : Polynomial = term u ⊖ term t ⊗ term q in
    let s = same (U ⊗ (number 2 ⊗ (term q ⊗ number 0) ⊕ term e ⊗ U)) (term e ⊗ (U ⊗ U)) (omega arith) in
    above_by_gap d e q u t (rw flat (rw s m))

-- e * a * a + s * a * q + r * q * q is not below 0 where s lies between -e and e, and r is not below e / 4
form_up : (e a q s r : ℤ) → pos 0 ≤ℤ e → pos 0 ≤ℤ q → s ≤ℤ e → neg_ℤ e ≤ℤ s → e ≤ℤ (pos 4 *ℤ r) → pos 0 ≤ℤ (e *ℤ (a *ℤ a) +ℤ s *ℤ (a *ℤ q) +ℤ r *ℤ (q *ℤ q))
form_up e a q s r convex positive high low quarter =
    let A : Polynomial = term a in
    let E : Polynomial = term e in
    let Q : Polynomial = term q in
    let S : Polynomial = term s in
    let R : Polynomial = term r in
    let form : Polynomial = E ⊗ (A ⊗ A) ⊕ S ⊗ (A ⊗ Q) ⊕ R ⊗ (Q ⊗ Q) in
    let quarters = *ℤ-mono (q *ℤ q) e (pos 4 *ℤ r) (both_up q q positive positive) quarter in
    by_lt_z a (pos 0)
    (λ (n : a <ℤ pos 0).
    let m = *ℤ-anti (a *ℤ q) s e (down_up a q (omega (arith, ints)) positive) high in
    let k = both_up e ((pos 2 *ℤ a +ℤ q) *ℤ (pos 2 *ℤ a +ℤ q)) convex (square_up (pos 2 *ℤ a +ℤ q)) in
    at_most (number 0) form (omega (arith, at_most_of ((Q ⊗ Q) ⊗ E) ((Q ⊗ Q) ⊗ (number 4 ⊗ R)) quarters, at_most_of (A ⊗ Q ⊗ E) (A ⊗ Q ⊗ S) m, at_most_of (number 0) (E ⊗ ((number 2 ⊗ A ⊕ Q) ⊗ (number 2 ⊗ A ⊕ Q))) k)))
    (λ (p : pos 0 ≤ℤ a).
    let m = *ℤ-mono (a *ℤ q) (neg_ℤ e) s (both_up a q p positive) low in
    let k = both_up e ((pos 2 *ℤ a -ℤ q) *ℤ (pos 2 *ℤ a -ℤ q)) convex (square_up (pos 2 *ℤ a -ℤ q)) in
    at_most (number 0) form (omega (arith, at_most_of ((Q ⊗ Q) ⊗ E) ((Q ⊗ Q) ⊗ (number 4 ⊗ R)) quarters, at_most_of (A ⊗ Q ⊗ (number 0 ⊖ E)) (A ⊗ Q ⊗ S) (less m), at_most_of (number 0) (E ⊗ ((number 2 ⊗ A ⊖ Q) ⊗ (number 2 ⊗ A ⊖ Q))) k)))
  where
    less : {z : ℤ} → (a *ℤ q *ℤ neg_ℤ e) ≤ℤ z → (a *ℤ q *ℤ (pos 0 -ℤ e)) ≤ℤ z
    less {z} m = subst (λ (w : ℤ). (a *ℤ q *ℤ w) ≤ℤ z) (let g : neg_ℤ e ≡ pos 0 -ℤ e = omega (arith, ints) in g) m

-- near the vertex: the curve at t, less a quarter of e
pub beside_vertex : (d e q u t r : ℤ) → pos 0 ≤ℤ e → pos 0 ≤ℤ q → (pos 2 *ℤ half_slope d e t) ≤ℤ e → neg_ℤ e ≤ℤ (pos 2 *ℤ half_slope d e t) → e ≤ℤ (pos 4 *ℤ r)
    → ((curve d e t -ℤ r) *ℤ (q *ℤ q)) ≤ℤ curve_over d e q u
beside_vertex d e q u t r convex positive high low quarter =
    let D : Polynomial = number 1000 ⊗ term d in
    let Q : Polynomial = term q in
    let U : Polynomial = term u in
    let T : Polynomial = term t in
    let E : Polynomial = term e in
    let A : Polynomial = U ⊖ T ⊗ Q in
    let S : Polynomial = number 2 ⊗ (number 500 ⊗ term d ⊕ E ⊗ T) in
    let f = form_up e (u -ℤ t *ℤ q) q (pos 2 *ℤ half_slope d e t) r convex positive high low quarter in
    at_most ((D ⊗ T ⊕ E ⊗ (T ⊗ T) ⊖ term r) ⊗ (Q ⊗ Q)) (D ⊗ (U ⊗ Q) ⊕ E ⊗ (U ⊗ U)) (omega (arith, at_most_of (number 0) (E ⊗ (A ⊗ A) ⊕ S ⊗ (A ⊗ Q) ⊕ term r ⊗ (Q ⊗ Q)) f))

-- ---- the whole number nearest to the vertex
pub nearest_high : (d : ℤ) (n : ℕ) (t : ℤ) → IsCeil (neg_ℤ (pos 1000 *ℤ d +ℤ pos n)) (2 * n) t → (pos 2 *ℤ half_slope d (pos n) t) <ℤ pos n
nearest_high d n t c =
    let l : (t *ℤ pos (2 * n) +ℤ pos 1000 *ℤ d) <ℤ pos n = omega (arith, ints, c.below) in
    below (number 2 ⊗ (number 500 ⊗ term d ⊕ number n ⊗ term t)) (number n) (omega (arith, below_of (term t ⊗ number (2 * n) ⊕ number 1000 ⊗ term d) (number n) l))

pub nearest_low : (d : ℤ) (n : ℕ) (t : ℤ) → IsCeil (neg_ℤ (pos 1000 *ℤ d +ℤ pos n)) (2 * n) t → neg_ℤ (pos n) ≤ℤ (pos 2 *ℤ half_slope d (pos n) t)
nearest_low d n t c =
    let l : pos 0 ≤ℤ (t *ℤ pos (2 * n) +ℤ pos 1000 *ℤ d +ℤ pos n) = omega (arith, ints, c.at_least) in
    let m : pos 0 ≤ℤ (pos 2 *ℤ (pos 500 *ℤ d +ℤ pos n *ℤ t) +ℤ pos n) =
    at_most (number 0) (number 2 ⊗ (number 500 ⊗ term d ⊕ number n ⊗ term t) ⊕ number n) (omega (arith, at_most_of (number 0) (term t ⊗ number (2 * n) ⊕ number 1000 ⊗ term d ⊕ number n) l)) in
    omega (arith, ints, m)

pub near-le : (d : ℤ) (n : ℕ) (q u : ℤ) → 0 < n → pos 0 ≤ℤ q → (near_vertex d (pos n) (nearest d n) *ℤ (q *ℤ q)) ≤ℤ curve_over d (pos n) q u
near-le d n q u h positive =
    let c = ceil_is (neg_ℤ (pos 1000 *ℤ d +ℤ pos n)) (2 * n) (omega arith) in
    go (nearest d n) (half_slope d (pos n) (nearest d n)) refl (let h' = nearest_high d n (nearest d n) c in omega (arith, ints)) (nearest_low d n (nearest d n) c)
  where
    quarter : pos n ≤ℤ (pos 4 *ℤ ceil_div (pos n) 4)
    quarter = let c = ceil_is (pos n) 4 (omega arith) in omega (arith, ints, c.at_least)

    go : (t s : ℤ) → half_slope d (pos n) t ≡ s → (pos 2 *ℤ half_slope d (pos n) t) ≤ℤ pos n → neg_ℤ (pos n) ≤ℤ (pos 2 *ℤ half_slope d (pos n) t) → ((curve d (pos n) t -ℤ vertex_margin s (pos n)) *ℤ (q *ℤ q)) ≤ℤ curve_over d (pos n) q u
    go t (pos zero) e high low = let z : curve d (pos n) t -ℤ pos 0 ≡ curve d (pos n) t = omega (arith, ints) in rw z (at_vertex d (pos n) q u t (omega (arith, ints)) e)
    go t (pos (suc m)) e high low = beside_vertex d (pos n) q u t (ceil_div (pos n) 4) (omega (arith, ints)) positive high low quarter
    go t (negsuc m) e high low = beside_vertex d (pos n) q u t (ceil_div (pos n) 4) (omega (arith, ints)) positive high low quarter

-- ---- all cases
lesser : (a b k z : ℤ) → pos 0 ≤ℤ k → ((a *ℤ k) ≤ℤ z) ⊎ ((b *ℤ k) ≤ℤ z) → (int_min a b *ℤ k) ≤ℤ z
lesser a b k z h o = go (int_lt b a) refl
  where
    go : (t : Bool) → int_lt b a ≡ t → (cond t b a *ℤ k) ≤ℤ z
    go true e = let m = *ℤ-mono k b a h (let l : b ≤ℤ a = grind (arith, ints) in l) in elim o [ inl l ↦ omega (arith, ints, l, m) | inr r ↦ r ]
    go false e = let m = *ℤ-mono k a b h (let l : a ≤ℤ b = grind (arith, ints) in l) in elim o [ inl l ↦ l | inr r ↦ omega (arith, ints, r, m) ]

le_from : (a b : ℤ) → int_le a b ≡ true → a ≤ℤ b
le_from a b e = grind (arith, ints)

lt_from : (a b : ℤ) → int_le a b ≡ false → b <ℤ a
lt_from a b e = grind (arith, ints)

pub curve_least-le : (d e q u lo hi : ℤ) → pos 0 ≤ℤ q → (lo *ℤ q) ≤ℤ u → u ≤ℤ (hi *ℤ q) → (curve_least d e lo hi *ℤ (q *ℤ q)) ≤ℤ curve_over d e q u
curve_least-le d e q u lo hi positive low high = go (int_le e (pos 0)) (int_le (pos 0) (half_slope d e lo)) (int_le (half_slope d e hi) (pos 0)) refl refl refl
  where
    near : (n : ℤ) → pos 0 <ℤ n → (near_vertex d n (nearest d (unsigned_abs n)) *ℤ (q *ℤ q)) ≤ℤ curve_over d n q u
    near (pos n) h = near-le d n q u (omega (arith, ints)) positive
    near (negsuc n) h = absurd (omega (arith, ints))

    go : (a b c : Bool) → int_le e (pos 0) ≡ a → int_le (pos 0) (half_slope d e lo) ≡ b → int_le (half_slope d e hi) (pos 0) ≡ c
        → ((if a then int_min (curve d e lo) (curve d e hi) else (if b then curve d e lo else (if c then curve d e hi else near_vertex d e (nearest d (unsigned_abs e))))) *ℤ (q *ℤ q)) ≤ℤ curve_over d e q u
    go true b c f g h = lesser (curve d e lo) (curve d e hi) (q *ℤ q) _ (square_up q) (concave d e q u lo hi (le_from e (pos 0) f) low high)
    go false true c f g h = rising d e q u lo (omega (arith, ints, lt_from e (pos 0) f)) positive low (le_from (pos 0) (half_slope d e lo) g)
    go false false true f g h = falling d e q u hi (omega (arith, ints, lt_from e (pos 0) f)) positive high (le_from (half_slope d e hi) (pos 0) h)
    go false false false f g h = near e (lt_from e (pos 0) f)
