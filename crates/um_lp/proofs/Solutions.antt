-- The rows before and after a pivot have the same solutions, and so have a tableau and the given rows.
use Rattle.std.proofs.Common.{◌≡◌, ◌≢◌, ℕ, ◌+◌, ◌<◌, ap, sym, ◌∙◌, refl, cond, [], ◌∷◌}
use Rattle.std.specs.Prelude.{pos}
use Rattle.um_laws.proofs.Ring.{var, nought, unit, ◌⊕◌, ◌⊗◌, opp}
use Rattle.um_laws.specs.Rational.{Rational, whole, add, mul, neg, inverse}
use Rattle.um_lp.specs.Basis.{sum_below, Solves, pivot_entry}
use Rattle.um_lp.specs.Laws.{SameSolutionsLaw, TableauSolutionsLaw}
use Rattle.um_laws.proofs.RationalEquations.{by_ring, factor_is}
use Rattle.um_lp.proofs.Rows.{by_row}
use Rattle.um_lp.proofs.Sums.{sum-cong, sum-mul, sum-neg, sum-none, sum-swap, sum-combined, sum-scaled}

-- ---- a pivot
module _ (m w : ℕ) (e : ℕ → ℕ → Rational) (r k : ℕ) (x : ℕ → Rational) (lr : r < m) (ne : e r k ≢ whole (pos 0)) where
  abbrev c : Rational
  c = neg (inverse (e r k))

  -- what a row comes to at x
  abbrev S : ℕ → Rational
  S s = sum_below w (λ j. mul (e s j) (x j))

  pub solves_after : Solves m w e x → Solves m w (pivot_entry e r k) x
  solves_after h s l = by_row (λ b. sum_below w (λ j. mul (cond b (mul c (e r j)) (add (e s j) (mul (e s k) (mul c (e r j))))) (x j)) ≡ whole (pos 0)) s r
      (λ same. sum-scaled w c (e r) x ∙ ap (mul c) (h r lr) ∙ by_ring (c ∷ []) (var 0 ⊗ nought) nought refl)
      (λ other. sum-combined w (e s k) (e s) (λ j. mul c (e r j)) x ∙ ap (λ (z : Rational). add z (mul (e s k) (sum_below w (λ j. mul (mul c (e r j)) (x j))))) (h s l)
      ∙ ap (λ (z : Rational). add (whole (pos 0)) (mul (e s k) z)) (sum-scaled w c (e r) x ∙ ap (mul c) (h r lr))
      ∙ by_ring (e s k ∷ c ∷ []) (nought ⊕ var 0 ⊗ (var 1 ⊗ nought)) nought refl)

  -- the line of the pivot is 0 at x
  line_zero : Solves m w (pivot_entry e r k) x → mul c (S r) ≡ whole (pos 0)
  line_zero h = sym (sum-scaled w c (e r) x) ∙ by_row (λ b. sum_below w (λ j. mul (cond b (mul c (e r j)) (add (e r j) (mul (e r k) (mul c (e r j))))) (x j)) ≡ whole (pos 0) → sum_below w (λ j. mul (mul c (e r j)) (x j)) ≡ whole (pos 0)) r r (λ same q. q) (λ other. absurd (other refl)) (h r lr)

  pub solves_before : Solves m w (pivot_entry e r k) x → Solves m w e x
  solves_before h s l = by_row (λ b. sum_below w (λ j. mul (cond b (mul c (e r j)) (add (e s j) (mul (e s k) (mul c (e r j))))) (x j)) ≡ whole (pos 0) → S s ≡ whole (pos 0)) s r
      (λ same q. ap S same ∙ by_ring (S r ∷ []) (var 0) (opp (opp unit ⊗ var 0)) refl ∙ ap (λ (z : Rational). neg (mul z (S r))) (sym (factor_is (e r k) ne))
      ∙ by_ring (c ∷ e r k ∷ S r ∷ []) (opp ((var 0 ⊗ var 1) ⊗ var 2)) (opp (var 1 ⊗ (var 0 ⊗ var 2))) refl ∙ ap (λ (z : Rational). neg (mul (e r k) z)) (line_zero h) ∙ by_ring (e r k ∷ []) (opp (var 0 ⊗ nought)) nought refl)
      (λ other q. by_ring (S s ∷ e s k ∷ c ∷ S r ∷ []) (var 0) ((var 0 ⊕ var 1 ⊗ (var 2 ⊗ var 3)) ⊕ opp (var 1 ⊗ (var 2 ⊗ var 3))) refl
      ∙ ap (λ (z : Rational). add (add (S s) (mul (e s k) z)) (neg (mul (e s k) (mul c (S r))))) (sym (sum-scaled w c (e r) x))
      ∙ ap (λ (z : Rational). add z (neg (mul (e s k) (mul c (S r))))) (sym (sum-combined w (e s k) (e s) (λ j. mul c (e r j)) x) ∙ q)
      ∙ ap (λ (z : Rational). add (whole (pos 0)) (neg (mul (e s k) z))) (line_zero h)
      ∙ by_ring (e s k ∷ []) (nought ⊕ opp (var 0 ⊗ nought)) nought refl)
      (h s l)

pub same-solutions-law : SameSolutionsLaw
same-solutions-law m w e r k x lr ne = (solves_after m w e r k x lr ne, solves_before m w e r k x lr ne)

-- ---- sums of rows

-- a row that is minus a sum of multiples of rows that are 0 at x is 0 at x
mixed : (m w : ℕ) (c : ℕ → Rational) (a : ℕ → ℕ → Rational) (u x : ℕ → Rational) → ((j : ℕ) → j < w → u j ≡ neg (sum_below m (λ i. mul (c i) (a i j)))) → Solves m w a x → sum_below w (λ j. mul (u j) (x j)) ≡ whole (pos 0)
mixed m w c a u x hu h =
    sum-cong w _ (λ j. neg (sum_below m (λ i. mul (c i) (mul (a i j) (x j))))) (λ j l.
    ap (λ (z : Rational). mul z (x j)) (hu j l)
    ∙ by_ring (sum_below m (λ i. mul (c i) (a i j)) ∷ x j ∷ []) (opp (var 0) ⊗ var 1) (opp (var 1 ⊗ var 0)) refl
    ∙ ap neg (sym (sum-mul m (x j) (λ i. mul (c i) (a i j)))
    ∙ sum-cong m _ _ (λ i p. by_ring (x j ∷ c i ∷ a i j ∷ []) (var 0 ⊗ (var 1 ⊗ var 2)) (var 1 ⊗ (var 2 ⊗ var 0)) refl)))
    ∙ sum-neg w (λ j. sum_below m (λ i. mul (c i) (mul (a i j) (x j))))
    ∙ ap neg (sum-swap w m (λ j i. mul (c i) (mul (a i j) (x j)))
    ∙ sum-none m _ (λ i l. sum-mul w (c i) (λ j. mul (a i j) (x j)) ∙ ap (mul (c i)) (h i l) ∙ by_ring (c i ∷ []) (var 0 ⊗ nought) nought refl))
    ∙ by_ring [] (opp nought) nought refl

pub tableau-solutions-law : TableauSolutionsLaw
tableau-solutions-law m w n row basic e x t = (
  λ h i l. mixed m w (λ r. row i (basic r)) e (row i) x (λ j q. t.spans i j l q) h,
  λ h r l. mixed m w (λ i. e r (n + i)) row (e r) x (λ j q. t.within r j l q) h,
)

-- entries that agree in range have the same solutions
pub Solves-same : (m w : ℕ) (e e' : ℕ → ℕ → Rational) (x : ℕ → Rational) → ((r j : ℕ) → r < m → j < w → e' r j ≡ e r j) → Solves m w e x → Solves m w e' x
Solves-same m w e e' x he h r l = sum-cong w _ _ (λ j q. ap (λ (z : Rational). mul z (x j)) (he r j l q)) ∙ h r l

-- values that agree in range solve alike
pub Solves-values : (m w : ℕ) (e : ℕ → ℕ → Rational) (x y : ℕ → Rational) → ((j : ℕ) → j < w → y j ≡ x j) → Solves m w e x → Solves m w e y
Solves-values m w e x y hx h r l = sum-cong w _ _ (λ j q. ap (mul (e r j)) (hx j q)) ∙ h r l
