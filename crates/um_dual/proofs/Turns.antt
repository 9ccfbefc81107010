-- Signs of products, turned to the side of an end.
use Rattle.std.proofs.Common.{◌≡◌, ◌≢◌, arith, sym, ap, ◌∙◌, subst, refl, inl, inr, [], ◌∷◌}
use Rattle.std.specs.Prelude.{ℤ, pos, negsuc, zero, suc}
use Rattle.std.proofs.lemmas.Int.{ints}
use Rattle.um_laws.proofs.Ring.{var, nought, ◌⊕◌, ◌⊗◌, opp}
use Rattle.um_laws.proofs.RationalField.{num_of_zero}
use Rattle.um_laws.proofs.RationalOrder.{IsNonNegative, IsPositive, nonneg-mul, positive-mul, sign_of, nonneg_of_positive}
use Rattle.um_laws.specs.Rational.{Rational, whole, add, mul, neg}
use Rattle.um_num.proofs.Parts.{zero_parts}
use Rattle.um_lp.specs.DualSteps.{CanMove}
use Rattle.um_lp.specs.declared.board.At.{At}
use Rattle.um_lp.specs.declared.board.At.TheVariants.{Lower, Upper, Zero, Basic}
use Rattle.um_laws.proofs.RationalEquations.{by_ring}
use Rattle.um_dual.proofs.Signs.{IsSide, turn, Stands, double, nonneg_zero, moves_up, up_moves, turn_gone, stands_turned}
use Rattle.um_num.proofs.Order.{not_both}

pub zero_not_positive : (x : Rational) → x ≡ whole (pos 0) → ¬ IsPositive x
zero_not_positive x e h = let p = zero_parts x e in omega (arith, ints)

pub not_negative : (x : Rational) → ¬ IsPositive (neg x) → IsNonNegative x
not_negative x h = elim (sign_of x) [ inl p ↦ p | inr p ↦ absurd (h p) ]

pub not_positive : (x : Rational) → ¬ IsPositive x → IsNonNegative (neg x)
not_positive x h = not_negative (neg x) (λ p. h (subst (λ (z : Rational). IsPositive z) (double x) p))

-- a number above 0, or 0, that is not above 0
pub zero_or_positive : (x : Rational) → IsNonNegative x → ¬ IsPositive x → x ≡ whole (pos 0)
zero_or_positive x p q = by x.num refl
  where
    by : (n : ℤ) → x.num ≡ n → x ≡ whole (pos 0)
    by (pos zero) e = num_of_zero x e
    by (pos (suc n)) e = absurd (q (omega (arith, ints)))
    by (negsuc n) e = absurd (omega (arith, ints))

-- where a product and one factor are above 0, so is the other
pub factor_positive : (x y : Rational) → IsPositive (mul x y) → IsPositive x → IsPositive y
factor_positive x y h p = elim (sign_of y) [
  | inr q ↦ absurd (not_both (mul x y) (nonneg_of_positive (mul x y) h) (subst (λ (z : Rational). IsPositive z) (by_ring (x ∷ y ∷ []) (var 0 ⊗ opp (var 1)) (opp (var 0 ⊗ var 1)) refl) (positive-mul x (neg y) p q)))
  | inl q ↦ by q y.num refl
]
  where
    by : IsNonNegative y → (n : ℤ) → y.num ≡ n → IsPositive y
    by q (pos zero) e = absurd (zero_not_positive (mul x y) (ap (mul x) (num_of_zero y e) ∙ by_ring (x ∷ []) (var 0 ⊗ nought) nought refl) h)
    by q (pos (suc n)) e = omega (arith, ints)
    by q (negsuc n) e = absurd (omega (arith, ints))

-- ---- what a column's entry says of its moves
pub stays : (at to : At) (v : Rational) → IsSide at → IsSide to → ¬ CanMove at to v → IsNonNegative (neg (turn at (turn to v)))
stays at to v i j h = not_positive (turn at (turn to v)) (λ p. h (up_moves at to v i j p))

pub no_entry : (v : Rational) → ¬ (v ≢ whole (pos 0)) → v ≡ whole (pos 0)
no_entry v h = by v.num refl
  where
    by : (n : ℤ) → v.num ≡ n → v ≡ whole (pos 0)
    by (pos zero) e = num_of_zero v e
    by (pos (suc n)) e = absurd (h (λ z. let p = zero_parts v z in omega (arith, ints)))
    by (negsuc n) e = absurd (h (λ z. let p = zero_parts v z in omega (arith, ints)))

-- ---- turned products
pub turned_product : (at to : At) (v d : Rational) → IsSide at → IsSide to → mul (turn at (turn to v)) (neg (turn at d)) ≡ neg (mul (turn to v) d)
turned_product Lower Lower v d i j = by_ring (v ∷ d ∷ []) (var 0 ⊗ opp (var 1)) (opp (var 0 ⊗ var 1)) refl
turned_product Lower Upper v d i j = by_ring (v ∷ d ∷ []) (opp (var 0) ⊗ opp (var 1)) (opp (opp (var 0) ⊗ var 1)) refl
turned_product Upper Lower v d i j = by_ring (v ∷ d ∷ []) (opp (var 0) ⊗ opp (opp (var 1))) (opp (var 0 ⊗ var 1)) refl
turned_product Upper Upper v d i j = by_ring (v ∷ d ∷ []) (opp (opp (var 0)) ⊗ opp (opp (var 1))) (opp (opp (var 0) ⊗ var 1)) refl
turned_product Zero to v d i j = absurd i
turned_product Basic to v d i j = absurd i
turned_product Lower Zero v d i j = absurd j
turned_product Lower Basic v d i j = absurd j
turned_product Upper Zero v d i j = absurd j
turned_product Upper Basic v d i j = absurd j

pub turn-neg : (at : At) (x : Rational) → turn at (neg x) ≡ neg (turn at x)
turn-neg Lower x = refl
turn-neg Upper x = refl
turn-neg Zero x = refl
turn-neg Basic x = refl

pub turn-add : (at : At) (x y : Rational) → turn at (add x y) ≡ add (turn at x) (turn at y)
turn-add Lower x y = refl
turn-add Upper x y = by_ring (x ∷ y ∷ []) (opp (var 0 ⊕ var 1)) (opp (var 0) ⊕ opp (var 1)) refl
turn-add Zero x y = refl
turn-add Basic x y = refl

pub turn-twice : (at : At) (x y : Rational) → mul (turn at x) (turn at y) ≡ mul x y
turn-twice Lower x y = refl
turn-twice Upper x y = by_ring (x ∷ y ∷ []) (opp (var 0) ⊗ opp (var 1)) (var 0 ⊗ var 1) refl
turn-twice Zero x y = refl
turn-twice Basic x y = refl

pub turn-mul : (at : At) (x y : Rational) → turn at (mul x y) ≡ mul (turn at x) y
turn-mul Lower x y = refl
turn-mul Upper x y = by_ring (x ∷ y ∷ []) (opp (var 0 ⊗ var 1)) (opp (var 0) ⊗ var 1) refl
turn-mul Zero x y = refl
turn-mul Basic x y = refl

-- ---- what a step gains
-- the entering column moves by g, its entry v times g is what the leaving column moves, to the side where it lacked
entering_way : (at to : At) (v g l : Rational) → IsSide at → IsSide to → CanMove at to v → mul v g ≡ l → IsPositive (turn to l) → IsPositive (turn at g)
entering_way at to v g l i j m e p =
    factor_positive (turn at (turn to v)) (turn at g)
    (subst (λ (z : Rational). IsPositive z) (ap (turn to) (sym e) ∙ turn-mul to v g ∙ sym (turn-twice at (turn to v) g)) p)
    (moves_up at to v i j m)

-- the gain is not below 0
pub gain_nonneg : (at to : At) (v g l d : Rational) → IsSide to → CanMove at to v → mul v g ≡ l → IsPositive (turn to l) → Stands at d → IsNonNegative (mul d g)
gain_nonneg Zero to v g l d j m e p h = nonneg_zero (mul d g) (ap (λ (z : Rational). mul z g) h ∙ by_ring (g ∷ []) (nought ⊗ var 0) nought refl)
gain_nonneg Basic to v g l d j m e p h = absurd m
gain_nonneg Lower to v g l d j m e p h = nonneg-mul d g h (nonneg_of_positive g (entering_way Lower to v g l tt j m e p))
gain_nonneg Upper to v g l d j m e p h =
    subst (λ (z : Rational). IsNonNegative z) (turn-twice Upper d g) (nonneg-mul (neg d) (neg g) h (nonneg_of_positive (neg g) (entering_way Upper to v g l tt j m e p)))

no_gain_at : (at to : At) (v g l d : Rational) → IsSide at → IsSide to → CanMove at to v → mul v g ≡ l → IsPositive (turn to l) → Stands at d → mul d g ≡ whole (pos 0) → d ≡ whole (pos 0)
no_gain_at at to v g l d i j m e p h z =
    turn_gone at d (zero_or_positive (turn at d) (stands_turned at d i h) (λ q. zero_not_positive (mul d g) z (subst (λ (z : Rational). IsPositive z) (turn-twice at d g) (positive-mul (turn at d) (turn at g) q (entering_way at to v g l i j m e p)))))

-- and 0 only where the entering column's reduced cost is
pub no_gain : (at to : At) (v g l d : Rational) → IsSide to → CanMove at to v → mul v g ≡ l → IsPositive (turn to l) → Stands at d → mul d g ≡ whole (pos 0) → d ≡ whole (pos 0)
no_gain Zero to v g l d j m e p h z = h
no_gain Basic to v g l d j m e p h z = absurd m
no_gain Lower to v g l d j m e p h z = no_gain_at Lower to v g l d tt j m e p h z
no_gain Upper to v g l d j m e p h z = no_gain_at Upper to v g l d tt j m e p h z
