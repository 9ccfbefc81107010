-- The reduced costs after a pivot.
use Rattle.std.proofs.Common.{◌≡◌, ◌≢◌, ℕ, ◌<◌, ap, ◌∙◌, refl, cond, [], ◌∷◌}
use Rattle.std.specs.Prelude.{pos}
use Rattle.um_laws.proofs.Ring.{var, nought, unit, ◌⊕◌, ◌⊗◌, opp}
use Rattle.um_laws.specs.Rational.{Rational, whole, add, mul, neg, inverse}
use Rattle.um_lp.specs.Basis.{sum_below, pivot_line, pivot_entry, pivot_basic}
use Rattle.um_laws.proofs.RationalEquations.{by_ring, factor_is}
use Rattle.um_lp.proofs.Rows.{by_row}
use Rattle.um_lp.proofs.Sums.{sum-cong, sum-add, sum-mul, sum-change}

-- the cost of a column, and in each row the cost of the basic column times the column's entry
abbrev pub reduced_cost : ℕ → (ℕ → Rational) → (ℕ → ℕ) → (ℕ → ℕ → Rational) → ℕ → Rational
reduced_cost m c basic e j = add (c j) (sum_below m (λ r. mul (c (basic r)) (e r j)))

-- after a pivot each has gained the entering column's times the entering column's line
pub reduced-pivot : (m : ℕ) (c : ℕ → Rational) (basic : ℕ → ℕ) (e : ℕ → ℕ → Rational) (r k j : ℕ) → r < m → e r k ≢ whole (pos 0)
    → reduced_cost m c (pivot_basic basic r k) (pivot_entry e r k) j ≡ add (reduced_cost m c basic e j) (mul (reduced_cost m c basic e k) (pivot_line e r k j))
reduced-pivot m c basic e r k j lr ne =
    let line : Rational = pivot_line e r k j in
    let S : ℕ → Rational = λ q. sum_below m (λ s. mul (c (basic s)) (e s q)) in
    let f : ℕ → Rational = λ s. mul (c (pivot_basic basic r k s)) (pivot_entry e r k s j) in
    let g : ℕ → Rational = λ s. add (mul (c (basic s)) (e s j)) (mul line (mul (c (basic s)) (e s k))) in
    let fr : f r ≡ mul (c k) line = by_row (λ b. mul (c (cond b k (basic r))) (cond b line (add (e r j) (mul (e r k) line))) ≡ mul (c k) line) r r (λ s. refl) (λ d. absurd (d refl)) in
    let gr : g r ≡ whole (pos 0) =
    by_ring (c (basic r) ∷ e r j ∷ neg (inverse (e r k)) ∷ e r k ∷ []) (var 0 ⊗ var 1 ⊕ (var 2 ⊗ var 1) ⊗ (var 0 ⊗ var 3)) (var 0 ⊗ var 1 ⊕ (var 2 ⊗ var 3) ⊗ (var 0 ⊗ var 1)) refl
    ∙ ap (λ (x : Rational). add (mul (c (basic r)) (e r j)) (mul x (mul (c (basic r)) (e r j)))) (factor_is (e r k) ne)
    ∙ by_ring (c (basic r) ∷ e r j ∷ []) (var 0 ⊗ var 1 ⊕ opp unit ⊗ (var 0 ⊗ var 1)) nought refl in
    let change : sum_below m f ≡ add (sum_below m g) (add (f r) (neg (g r))) = sum-change m r f g lr (λ s l d.
    by_row (λ b. mul (c (cond b k (basic s))) (cond b line (add (e s j) (mul (e s k) line))) ≡ g s) s r (λ q. absurd (d q))
    (λ q. by_ring (c (basic s) ∷ e s j ∷ e s k ∷ line ∷ []) (var 0 ⊗ (var 1 ⊕ var 2 ⊗ var 3)) (var 0 ⊗ var 1 ⊕ var 3 ⊗ (var 0 ⊗ var 2)) refl)) in
    let total : sum_below m g ≡ add (S j) (mul line (S k)) =
    sum-add m (λ s. mul (c (basic s)) (e s j)) (λ s. mul line (mul (c (basic s)) (e s k)))
    ∙ ap (add (S j)) (sum-mul m line (λ s. mul (c (basic s)) (e s k))) in
    ap (add (c j)) (change ∙ ap (λ (x : Rational). add x (add (f r) (neg (g r)))) total ∙ ap (λ (x : Rational). add (add (S j) (mul line (S k))) (add x (neg (g r)))) fr
    ∙ ap (λ (x : Rational). add (add (S j) (mul line (S k))) (add (mul (c k) line) (neg x))) gr)
    ∙ by_ring (c j ∷ c k ∷ S j ∷ S k ∷ line ∷ []) (var 0 ⊕ ((var 2 ⊕ var 4 ⊗ var 3) ⊕ (var 1 ⊗ var 4 ⊕ opp nought))) ((var 0 ⊕ var 2) ⊕ (var 1 ⊕ var 3) ⊗ var 4) refl

-- bases and entries that agree have the same reduced costs
pub reduced-same : (m : ℕ) (c : ℕ → Rational) (b b' : ℕ → ℕ) (e e' : ℕ → ℕ → Rational) (j : ℕ) → ((r : ℕ) → r < m → b' r ≡ b r) → ((r : ℕ) → r < m → e' r j ≡ e r j) → reduced_cost m c b' e' j ≡ reduced_cost m c b e j
reduced-same m c b b' e e' j hb he = ap (add (c j)) (sum-cong m _ _ (λ r l. ap (λ (x : ℕ). mul (c x) (e' r j)) (hb r l) ∙ ap (mul (c (b r))) (he r l)))
