-- Sums over the numbers below a bound.
use Rattle.std.proofs.Common.{◌≡◌, ◌≢◌, ℕ, ◌+◌, ◌<◌, arith, ap, sym, ◌∙◌, refl, cond, nat_eq, [], ◌∷◌}
use Rattle.std.specs.Prelude.{pos, zero, suc}
use Rattle.std.proofs.Math.Numerals.{add-one}
use Rattle.um_laws.proofs.Ring.{var, nought, ◌⊕◌, ◌⊗◌, opp}
use Rattle.um_laws.specs.Rational.{Rational, whole, add, mul, neg}
use Rattle.um_lp.specs.Basis.{sum_below}
use Rattle.um_laws.proofs.RationalEquations.{by_ring}
use Rattle.um_lp.proofs.Rows.{by_row}

-- sums of parts that are equal in range
pub sum-cong : (m : ℕ) (f g : ℕ → Rational) → ((i : ℕ) → i < m → f i ≡ g i) → sum_below m f ≡ sum_below m g
sum-cong zero f g h = refl
sum-cong (suc m) f g h = ap (λ (x : Rational). add x (f m)) (sum-cong m f g (λ i l. h i (omega arith))) ∙ ap (add (sum_below m g)) (h m (omega arith))

-- one more part
pub sum-more : (m : ℕ) (f : ℕ → Rational) → sum_below (m + 1) f ≡ add (sum_below m f) (f m)
sum-more m f = ap (λ (n : ℕ). sum_below n f) (add-one m)

pub sum-zero : (m : ℕ) → sum_below m (λ i. whole (pos 0)) ≡ whole (pos 0)
sum-zero zero = refl
sum-zero (suc m) = ap (λ (x : Rational). add x (whole (pos 0))) (sum-zero m) ∙ by_ring [] (nought ⊕ nought) nought refl

-- a sum of parts that are all 0
pub sum-none : (m : ℕ) (f : ℕ → Rational) → ((i : ℕ) → i < m → f i ≡ whole (pos 0)) → sum_below m f ≡ whole (pos 0)
sum-none m f h = sum-cong m f (λ i. whole (pos 0)) h ∙ sum-zero m

pub sum-add : (m : ℕ) (f g : ℕ → Rational) → sum_below m (λ i. add (f i) (g i)) ≡ add (sum_below m f) (sum_below m g)
sum-add zero f g = by_ring [] nought (nought ⊕ nought) refl
sum-add (suc m) f g = ap (λ (x : Rational). add x (add (f m) (g m))) (sum-add m f g) ∙ by_ring (sum_below m f ∷ sum_below m g ∷ f m ∷ g m ∷ []) ((var 0 ⊕ var 1) ⊕ (var 2 ⊕ var 3)) ((var 0 ⊕ var 2) ⊕ (var 1 ⊕ var 3)) refl

pub sum-mul : (m : ℕ) (c : Rational) (f : ℕ → Rational) → sum_below m (λ i. mul c (f i)) ≡ mul c (sum_below m f)
sum-mul zero c f = by_ring (c ∷ []) nought (var 0 ⊗ nought) refl
sum-mul (suc m) c f = ap (λ (x : Rational). add x (mul c (f m))) (sum-mul m c f) ∙ by_ring (c ∷ sum_below m f ∷ f m ∷ []) (var 0 ⊗ var 1 ⊕ var 0 ⊗ var 2) (var 0 ⊗ (var 1 ⊕ var 2)) refl

pub sum-neg : (m : ℕ) (f : ℕ → Rational) → sum_below m (λ i. neg (f i)) ≡ neg (sum_below m f)
sum-neg zero f = by_ring [] nought (opp nought) refl
sum-neg (suc m) f = ap (λ (x : Rational). add x (neg (f m))) (sum-neg m f) ∙ by_ring (sum_below m f ∷ f m ∷ []) (opp (var 0) ⊕ opp (var 1)) (opp (var 0 ⊕ var 1)) refl

-- a double sum in the other order
pub sum-swap : (m p : ℕ) (f : ℕ → ℕ → Rational) → sum_below m (λ i. sum_below p (f i)) ≡ sum_below p (λ s. sum_below m (λ i. f i s))
sum-swap zero p f = sym (sum-zero p)
sum-swap (suc m) p f = ap (λ (x : Rational). add x (sum_below p (f m))) (sum-swap m p f) ∙ sym (sum-add p (λ s. sum_below m (λ i. f i s)) (f m))

-- a sum of which one part alone is not 0
pub sum-one : (m r : ℕ) (f : ℕ → Rational) → r < m → ((s : ℕ) → s < m → s ≢ r → f s ≡ whole (pos 0)) → sum_below m f ≡ f r
sum-one zero r f l h = absurd (omega arith)
sum-one (suc m) r f l h = by_row (λ b. add (sum_below m f) (f m) ≡ f r) r m
    (λ q. ap (λ (x : Rational). add x (f m)) (sum-none m f (λ s k. h s (omega arith) (let d : s ≢ r = omega arith in d))) ∙ by_ring (f m ∷ []) (nought ⊕ var 0) (var 0) refl ∙ ap f (sym q))
    (λ d. ap (λ (x : Rational). add x (f m)) (sum-one m r f (omega arith) (λ s p. h s (omega arith))) ∙ ap (add (f r)) (h m (omega arith) (λ q. d (sym q))) ∙ by_ring (f r ∷ []) (var 0 ⊕ nought) (var 0) refl)

-- sums of parts that differ at one place alone
pub sum-change : (m r : ℕ) (f g : ℕ → Rational) → r < m → ((s : ℕ) → s < m → s ≢ r → f s ≡ g s) → sum_below m f ≡ add (sum_below m g) (add (f r) (neg (g r)))
sum-change m r f g l h =
    by_ring (sum_below m f ∷ sum_below m g ∷ []) (var 0) (var 1 ⊕ (var 0 ⊕ opp (var 1))) refl
    ∙ ap (add (sum_below m g)) (ap (add (sum_below m f)) (sym (sum-neg m g)) ∙ sym (sum-add m f (λ s. neg (g s)))
    ∙ sum-one m r (λ s. add (f s) (neg (g s))) l (λ s p d. ap (λ (x : Rational). add x (neg (g s))) (h s p d) ∙ by_ring (g s ∷ []) (var 0 ⊕ opp (var 0)) nought refl))

-- a sum of which two parts alone are not 0
pub sum-two : (m p q : ℕ) (f : ℕ → Rational) → p < m → q < m → p ≢ q → ((s : ℕ) → s < m → s ≢ p → s ≢ q → f s ≡ whole (pos 0)) → sum_below m f ≡ add (f p) (f q)
sum-two m p q f lp lq d h =
    let g : ℕ → Rational = λ s. cond (nat_eq s p) (whole (pos 0)) (f s) in
    let gp : g p ≡ whole (pos 0) = by_row (λ b. cond b (whole (pos 0)) (f p) ≡ whole (pos 0)) p p (λ e. refl) (λ u. absurd (u refl)) in
    let gq : g q ≡ f q = by_row (λ b. cond b (whole (pos 0)) (f q) ≡ f q) q p (λ e. absurd (d (sym e))) (λ u. refl) in
    sum-change m p f g lp (λ s l u. by_row (λ b. f s ≡ cond b (whole (pos 0)) (f s)) s p (λ e. absurd (u e)) (λ v. refl))
    ∙ ap (λ (x : Rational). add x (add (f p) (neg (g p)))) (sum-one m q g lq (λ s l u. by_row (λ b. cond b (whole (pos 0)) (f s) ≡ whole (pos 0)) s p (λ e. refl) (λ v. h s l v u)) ∙ gq)
    ∙ ap (λ (x : Rational). add (f q) (add (f p) (neg x))) gp
    ∙ by_ring (f p ∷ f q ∷ []) (var 1 ⊕ (var 0 ⊕ opp nought)) (var 0 ⊕ var 1) refl

-- the sum of a row and a multiple of another, times numbers
pub sum-combined : (w : ℕ) (c : Rational) (u v x : ℕ → Rational)
    → sum_below w (λ j. mul (add (u j) (mul c (v j))) (x j)) ≡ add (sum_below w (λ j. mul (u j) (x j))) (mul c (sum_below w (λ j. mul (v j) (x j))))
sum-combined w c u v x =
    sum-cong w _ (λ j. add (mul (u j) (x j)) (mul c (mul (v j) (x j)))) (λ j l. by_ring (u j ∷ c ∷ v j ∷ x j ∷ []) ((var 0 ⊕ var 1 ⊗ var 2) ⊗ var 3) (var 0 ⊗ var 3 ⊕ var 1 ⊗ (var 2 ⊗ var 3)) refl)
    ∙ sum-add w _ _ ∙ ap (add _) (sum-mul w c (λ j. mul (v j) (x j)))

-- the sum of a multiple of a row, times numbers
pub sum-scaled : (w : ℕ) (c : Rational) (v x : ℕ → Rational) → sum_below w (λ j. mul (mul c (v j)) (x j)) ≡ mul c (sum_below w (λ j. mul (v j) (x j)))
sum-scaled w c v x = sum-cong w _ (λ j. mul c (mul (v j) (x j))) (λ j l. by_ring (c ∷ v j ∷ x j ∷ []) ((var 0 ⊗ var 1) ⊗ var 2) (var 0 ⊗ (var 1 ⊗ var 2)) refl) ∙ sum-mul w c (λ j. mul (v j) (x j))
