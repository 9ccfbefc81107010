-- Whole numbers as rational numbers, and the order of rational numbers.
use Rattle.std.proofs.Common.{◌≡◌, arith, ap, sym, ◌∙◌, subst, refl, inl, inr, [], ◌∷◌}
use Rattle.std.specs.Prelude.{ℤ, pos, negsuc, ◌+ℤ◌, ◌-ℤ◌, ◌*ℤ◌, ◌<ℤ◌, ◌≤ℤ◌, zero, suc}
use Rattle.std.proofs.lemmas.Int.{ints}
use Rattle.um_laws.specs.Rational.{Rational, Is, whole, add, mul, neg}
use Rattle.um_laws.proofs.Ring.{var, nought, ◌⊕◌, ◌⊗◌, opp}
use Rattle.um_laws.proofs.RationalField.{is_add, is_mul, is_whole, num_of_zero}
use Rattle.um_laws.proofs.RationalOrder.{IsNonNegative, IsPositive, sign_of, positive-add, positive-mul}
use Rattle.um_laws.proofs.RationalParts.{same_value}
use Rattle.um_num.specs.Fractions.{IsBelow}
use Rattle.um_laws.proofs.RationalEquations.{by_ring}
use Rattle.um_lp.proofs.Orders.{whole_num}

-- ---- sums and products of whole numbers

over_one : (x : Rational) (n m : ℤ) → Is x n 1 → n ≡ m → Is x m 1
over_one x n m h e = subst (λ (z : ℤ). Is x z 1) e h

pub whole-add : (a b : ℤ) → whole (a +ℤ b) ≡ add (whole a) (whole b)
whole-add a b =
    same_value (whole (a +ℤ b)) (add (whole a) (whole b)) (a *ℤ pos 1 +ℤ b *ℤ pos 1) 1 (omega arith) (over_one (whole (a +ℤ b)) (a +ℤ b) (a *ℤ pos 1 +ℤ b *ℤ pos 1) (is_whole (a +ℤ b)) (omega (arith, ints)))
    (is_add (whole a) (whole b) a b 1 1 (is_whole a) (is_whole b))

pub whole-mul : (a b : ℤ) → whole (a *ℤ b) ≡ mul (whole a) (whole b)
whole-mul a b = same_value (whole (a *ℤ b)) (mul (whole a) (whole b)) (a *ℤ b) 1 (omega arith) (is_whole (a *ℤ b)) (is_mul (whole a) (whole b) a b 1 1 (is_whole a) (is_whole b))

pub whole-sub : (a b : ℤ) → whole (a -ℤ b) ≡ add (whole a) (neg (whole b))
whole-sub a b =
    let e : a ≡ (a -ℤ b) +ℤ b = omega (arith, ints) in
    by_ring (whole (a -ℤ b) ∷ whole b ∷ []) (var 0) ((var 0 ⊕ var 1) ⊕ opp (var 1)) refl
    ∙ ap (λ (x : Rational). add x (neg (whole b))) (sym (ap whole e ∙ whole-add (a -ℤ b) b))

pub whole-same : (a b : ℤ) → whole a ≡ whole b → a ≡ b
whole-same a b e = sym (whole_num a) ∙ ap (λ (x : Rational). x.num) e ∙ whole_num b

-- ---- signs

pub whole-positive : (n : ℤ) → pos 0 <ℤ n → IsPositive (whole n)
whole-positive n h = subst (λ (z : ℤ). pos 0 <ℤ z) (sym (whole_num n)) h

pub positive-whole : (n : ℤ) → IsPositive (whole n) → pos 0 <ℤ n
positive-whole n h = subst (λ (z : ℤ). pos 0 <ℤ z) (whole_num n) h

pub whole-negative : (n : ℤ) → n <ℤ pos 0 → IsPositive (neg (whole n))
whole-negative n h =
    subst IsPositive (whole-sub (pos 0) n ∙ by_ring (whole n ∷ []) (nought ⊕ opp (var 0)) (opp (var 0)) refl)
    (whole-positive (pos 0 -ℤ n) (omega (arith, ints)))

-- no number is 0 and above 0, nor above and below 0
pub not_zero : (x : Rational) → x ≡ whole (pos 0) → IsPositive x → ⊥
not_zero x e h = let f : x.num ≡ pos 0 = ap (λ (y : Rational). y.num) e ∙ whole_num (pos 0) in absurd (omega (arith, ints))

pub not_both : (x : Rational) → IsPositive x → IsPositive (neg x) → ⊥
not_both x h k = not_zero (add x (neg x)) (by_ring (x ∷ []) (var 0 ⊕ opp (var 0)) nought refl) (positive-add x (neg x) (omega (arith, ints)) k)

-- a number is above 0, is 0, or is below 0
pub data Sign (x : Rational) : Type 0 where
  Above : IsPositive x → Sign x
  Nil : x ≡ whole (pos 0) → Sign x
  Under : IsPositive (neg x) → Sign x

above_or_zero : (x : Rational) (n : ℤ) → x.num ≡ n → pos 0 ≤ℤ n → Sign x
above_or_zero x (pos zero) e h = Nil (num_of_zero x e)
above_or_zero x (pos (suc n)) e h = Above (omega (arith, ints))
above_or_zero x (negsuc n) e h = absurd (omega (arith, ints))

pub signs : (x : Rational) → Sign x
signs x = elim (sign_of x) [ inl h ↦ above_or_zero x x.num refl h | inr h ↦ Under h ]

-- the numerator of a number below 0
pub num-under : (x : Rational) → IsPositive (neg x) → x.num <ℤ pos 0
num-under x h = go x.num refl
  where
    go : (n : ℤ) → x.num ≡ n → x.num <ℤ pos 0
    go (pos zero) e = absurd (not_zero (neg x) (ap neg (num_of_zero x e) ∙ by_ring [] (opp nought) nought refl) h)
    go (pos (suc n)) e = absurd (not_both x (omega (arith, ints)) h)
    go (negsuc n) e = omega (arith, ints)

-- the sign of a product with a number above 0 is that of the other factor
pub factor-above : (k x : Rational) → IsPositive k → IsPositive (mul k x) → IsPositive x
factor-above k x h p = go (signs x)
  where
    go : Sign x → IsPositive x
    go (Above q) = q
    go (Nil e) = absurd (not_zero (mul k x) (ap (mul k) e ∙ by_ring (k ∷ []) (var 0 ⊗ nought) nought refl) p)
    go (Under q) = absurd (not_both (mul k x) p (subst IsPositive (by_ring (k ∷ x ∷ []) (var 0 ⊗ opp (var 1)) (opp (var 0 ⊗ var 1)) refl) (positive-mul k (neg x) h q)))

pub factor-under : (k x : Rational) → IsPositive k → IsPositive (neg (mul k x)) → IsPositive (neg x)
factor-under k x h p = factor-above k (neg x) h (subst IsPositive (by_ring (k ∷ x ∷ []) (opp (var 0 ⊗ var 1)) (var 0 ⊗ opp (var 1)) refl) p)

-- ---- at most

-- x is at most y
abbrev pub AtMost : Rational → Rational → Type 0
AtMost x y = IsNonNegative (add y (neg x))

pub not_below : (x y : Rational) → ¬ IsBelow y x → AtMost x y
not_below x y h = elim (sign_of (add y (neg x))) [ inl p ↦ p | inr p ↦ absurd (h (subst IsPositive (by_ring (x ∷ y ∷ []) (opp (var 1 ⊕ opp (var 0))) (var 0 ⊕ opp (var 1)) refl) p)) ]

pub at_most_same : (x y : Rational) → x ≡ y → AtMost x y
at_most_same x y e =
    let f : (add y (neg x)).num ≡ pos 0 = ap (λ (z : Rational). z.num) (ap (λ (z : Rational). add y (neg z)) e ∙ by_ring (y ∷ []) (var 0 ⊕ opp (var 0)) nought refl) ∙ whole_num (pos 0) in
    omega (arith, ints)

pub whole-at_most : (a b : ℤ) → AtMost (whole a) (whole b) → a ≤ℤ b
whole-at_most a b h =
    let f : (add (whole b) (neg (whole a))).num ≡ b -ℤ a = ap (λ (x : Rational). x.num) (sym (whole-sub b a)) ∙ whole_num (b -ℤ a) in
    omega (arith, ints)
