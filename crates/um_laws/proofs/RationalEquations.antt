-- Equations of rational numbers, by normal forms, and the factor of a pivot.
use Rattle.std.proofs.Common.{◌≡◌, ◌≢◌, ℕ, ap, ◌∙◌, refl, List, [], ◌∷◌}
use Rattle.std.specs.Prelude.{pos, zero, suc}
use Rattle.um_laws.proofs.Ring.{ring, Expr, var, nought, unit, ◌⊕◌, ◌⊗◌, opp, norm, eval}
use Rattle.um_laws.proofs.RationalField.{rational_ring, mul_inverse, num_of_zero}
use Rattle.um_laws.specs.Rational.{Rational, whole, add, mul, neg, inverse}

-- what the variables of an expression stand for
abbrev pub env : List Rational → ℕ → Rational
env [] n = whole (pos 0)
env (x ∷ xs) zero = x
env (x ∷ xs) (suc n) = env xs n

-- two expressions with one normal form are equal at all numbers
pub by_ring : (xs : List Rational) (e f : Expr) → norm e ≡ norm f → eval rational_ring (env xs) e ≡ eval rational_ring (env xs) f
by_ring xs e f h = ring rational_ring (env xs) e f h

-- minus one over a number, times the number
pub factor_is : (p : Rational) → p ≢ whole (pos 0) → mul (neg (inverse p)) p ≡ neg (whole (pos 1))
factor_is p h = by_ring (p ∷ inverse p ∷ []) (opp (var 1) ⊗ var 0) (opp (var 0 ⊗ var 1)) refl ∙ ap neg (mul_inverse p (λ e. h (num_of_zero p e)))

-- a number times what is over it
pub over_is : (p x : Rational) → p ≢ whole (pos 0) → mul p (mul x (inverse p)) ≡ x
over_is p x h =
    by_ring (p ∷ x ∷ inverse p ∷ []) (var 0 ⊗ (var 1 ⊗ var 2)) (var 1 ⊗ (var 0 ⊗ var 2)) refl
    ∙ ap (mul x) (mul_inverse p (λ e. h (num_of_zero p e)))
    ∙ by_ring (x ∷ []) (var 0 ⊗ unit) (var 0) refl

-- equal numbers have the difference 0, and the other way round
pub difference_zero : (x y : Rational) → x ≡ y → add x (neg y) ≡ whole (pos 0)
difference_zero x y e = ap (λ (z : Rational). add z (neg y)) e ∙ by_ring (y ∷ []) (var 0 ⊕ opp (var 0)) nought refl

pub equal_from_difference : (x y : Rational) → add x (neg y) ≡ whole (pos 0) → x ≡ y
equal_from_difference x y e =
    by_ring (x ∷ y ∷ []) (var 0) ((var 0 ⊕ opp (var 1)) ⊕ var 1) refl
    ∙ ap (λ (z : Rational). add z y) e
    ∙ by_ring (y ∷ []) (nought ⊕ var 0) (var 0) refl
