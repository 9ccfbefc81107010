-- The order of numbers: no two are each below the other.
use Rattle.std.proofs.Common.{◌≡◌, ℕ, ◌*◌, ap, ◌∙◌, subst, refl, [], ◌∷◌, arith}
use Rattle.std.specs.Prelude.{ℤ, pos, ◌+ℤ◌, ◌*ℤ◌, ◌≤ℤ◌}
use Rattle.std.proofs.lemmas.Int.{ints}
use lib.IntN.{neg_ℤ, nat_abs}
use Rattle.um_laws.proofs.RationalField.{is_add, is_neg, is_whole}
use Rattle.um_laws.proofs.RationalOrder.{IsNonNegative, IsPositive, nonneg_from, positive-add}
use Rattle.um_laws.proofs.RationalParts.{num_of_reduced, den_of_reduced}
use Rattle.um_laws.proofs.Ring.{var, nought, ◌⊕◌, opp}
use Rattle.um_laws.specs.LowestTerms.{one_reduced}
use Rattle.um_laws.specs.Rational.{Rational, Is, whole, add, neg}
use Rattle.um_num.specs.Fractions.{IsBelow}
use Rattle.um_laws.proofs.RationalEquations.{by_ring}

-- ---- whole numbers

pub whole_num : (n : ℤ) → (whole n).num ≡ n
unfolding whole
whole_num n = num_of_reduced n (pos 1) (omega (arith, ints)) (one_reduced (nat_abs n))

pub whole_den : (n : ℤ) → (whole n).den ≡ 1
unfolding whole
whole_den n = let e = den_of_reduced n (pos 1) (omega (arith, ints)) (one_reduced (nat_abs n)) in cc

-- the parts of the negative of a whole number
neg_whole : (n : ℤ) → Is (neg (whole n)) (neg_ℤ n) 1
neg_whole n =
    subst (λ (d : ℕ). Is (neg (whole n)) (neg_ℤ n) d) (whole_den n)
    (subst (λ (m : ℤ). Is (neg (whole n)) (neg_ℤ m) (whole n).den) (whole_num n) (is_neg (whole n)))

-- the difference of whole numbers in order
pub whole_difference : (low high : ℤ) → low ≤ℤ high → IsNonNegative (add (whole high) (neg (whole low)))
whole_difference low high h =
    nonneg_from (add (whole high) (neg (whole low))) (high *ℤ pos 1 +ℤ neg_ℤ low *ℤ pos 1) (1 * 1) (omega arith)
    (is_add (whole high) (neg (whole low)) high (neg_ℤ low) 1 1 (is_whole high) (neg_whole low))
    (omega (arith, ints))

-- ---- below

zero_not_positive : (x : Rational) → x ≡ whole (pos 0) → IsPositive x → ⊥
zero_not_positive x e h = let f : x.num ≡ pos 0 = ap (λ (y : Rational). y.num) e ∙ whole_num (pos 0) in absurd (omega (arith, ints))

pub below_self : (x : Rational) → IsBelow x x → ⊥
below_self x h = zero_not_positive (add x (neg x)) (by_ring (x ∷ []) (var 0 ⊕ opp (var 0)) nought refl) h

pub below_each : (x y : Rational) → IsBelow x y → IsBelow y x → ⊥
below_each x y h k =
    zero_not_positive (add (add y (neg x)) (add x (neg y))) (by_ring (x ∷ y ∷ []) ((var 1 ⊕ opp (var 0)) ⊕ (var 0 ⊕ opp (var 1))) nought refl)
    (positive-add (add y (neg x)) (add x (neg y)) (omega (arith, ints)) k)

pub below_trans : (x y z : Rational) → IsBelow x y → IsBelow y z → IsBelow x z
below_trans x y z h k =
    subst IsPositive (by_ring (x ∷ y ∷ z ∷ []) ((var 1 ⊕ opp (var 0)) ⊕ (var 2 ⊕ opp (var 1))) (var 2 ⊕ opp (var 0)) refl)
    (positive-add (add y (neg x)) (add z (neg y)) (omega (arith, ints)) k)

-- no number is below a low end and above a high end that is at least the low one
pub not_outside_both : (x : Rational) (low high : ℤ) → low ≤ℤ high → IsBelow x (whole low) → IsBelow (whole high) x → ⊥
not_outside_both x low high h below above =
    zero_not_positive (add (add (whole high) (neg (whole low))) (add (add (whole low) (neg x)) (add x (neg (whole high)))))
    (by_ring (whole high ∷ whole low ∷ x ∷ []) ((var 0 ⊕ opp (var 1)) ⊕ ((var 1 ⊕ opp (var 2)) ⊕ (var 2 ⊕ opp (var 0)))) nought refl)
    (positive-add (add (whole high) (neg (whole low))) _ (whole_difference low high h) (positive-add (add (whole low) (neg x)) (add x (neg (whole high))) (omega (arith, ints)) above))
