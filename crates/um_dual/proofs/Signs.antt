-- The signs of reduced costs after a step, over numbers.
use Rattle.std.proofs.Common.{◌≡◌, ◌≢◌, arith, sym, ap, ◌∙◌, subst, refl, inl, inr, [], ◌∷◌}
use Rattle.std.specs.Prelude.{ℤ, pos, negsuc, zero, suc, ◌<ℤ◌}
use Rattle.std.proofs.lemmas.Int.{ints}
use Rattle.um_laws.proofs.Ring.{var, nought, unit, ◌⊕◌, ◌⊗◌, opp}
use Rattle.um_laws.proofs.RationalField.{mul_inverse, num_of_zero}
use Rattle.um_laws.proofs.RationalOrder.{IsNonNegative, IsPositive, nonneg-add, nonneg-mul, positive-mul, sign_of, nonneg_of_positive}
use Rattle.um_laws.specs.Rational.{Rational, whole, add, mul, neg, inverse}
use Rattle.um_num.proofs.Parts.{zero_parts}
use Rattle.um_lp.specs.DualSteps.{size, CanMove}
use Rattle.um_lp.specs.declared.board.At.{At}
use Rattle.um_lp.specs.declared.board.At.TheVariants.{Lower, Upper, Zero, Basic}
use Rattle.um_laws.proofs.RationalEquations.{by_ring}
use Rattle.um_dual.proofs.Sizes.{size_of_negative, size_of_other}
use Rattle.um_num.proofs.Order.{not_both}

-- a side is an end
abbrev pub IsSide : At → Type 0
IsSide Lower = Unit {0}
IsSide Upper = Unit {0}
IsSide Zero = ⊥
IsSide Basic = ⊥

-- a number at the low end, and its negative at the high end
abbrev pub turn : At → Rational → Rational
turn Lower x = x
turn Upper x = neg x
turn Zero x = x
turn Basic x = x

-- the reduced cost that a column may have where it stands
abbrev pub Stands : At → Rational → Type 0
Stands Lower d = IsNonNegative d
Stands Upper d = IsNonNegative (neg d)
Stands Zero d = d ≡ whole (pos 0)
Stands Basic d = Unit {0}

-- ---- signs
pub double : (x : Rational) → neg (neg x) ≡ x
double x = by_ring (x ∷ []) (opp (opp (var 0))) (var 0) refl

neg_zero : neg (whole (pos 0)) ≡ whole (pos 0)
neg_zero = by_ring [] (opp nought) nought refl

pub nonneg_zero : (x : Rational) → x ≡ whole (pos 0) → IsNonNegative x
nonneg_zero x e = let h = zero_parts x e in omega (arith, ints)

-- a number whose negative is not above 0 either
zero_between : (x : Rational) → IsNonNegative x → IsNonNegative (neg x) → x ≡ whole (pos 0)
zero_between x p q = by x.num refl
  where
    by : (n : ℤ) → x.num ≡ n → x ≡ whole (pos 0)
    by (pos zero) e = num_of_zero x e
    by (pos (suc n)) e = absurd (not_both (neg x) q (subst (λ (z : Rational). IsPositive z) (sym (double x)) (let h : IsPositive x = omega (arith, ints) in h)))
    by (negsuc n) e = absurd (omega (arith, ints))

-- a number is below 0 exactly where its negative is above
positive_neg : (x : Rational) → x.num <ℤ pos 0 → IsPositive (neg x)
positive_neg x h = elim (sign_of x) [ inl p ↦ absurd (omega (arith, ints)) | inr p ↦ p ]

negative_of : (x : Rational) → IsPositive (neg x) → x.num <ℤ pos 0
negative_of x h = by x.num refl
  where
    by : (n : ℤ) → x.num ≡ n → x.num <ℤ pos 0
    by (pos n) e = absurd (not_both x (omega (arith, ints)) h)
    by (negsuc n) e = omega (arith, ints)

-- ---- a column that can move
pub can_move_not_zero : (at to : At) (b : Rational) → CanMove at to b → b ≢ whole (pos 0)
can_move_not_zero Lower Lower b h e = let p = zero_parts b e in omega (arith, ints)
can_move_not_zero Lower Upper b h e = let p = zero_parts b e in omega (arith, ints)
can_move_not_zero Lower Zero b h e = h
can_move_not_zero Lower Basic b h e = h
can_move_not_zero Upper Lower b h e = let p = zero_parts b e in omega (arith, ints)
can_move_not_zero Upper Upper b h e = let p = zero_parts b e in omega (arith, ints)
can_move_not_zero Upper Zero b h e = h
can_move_not_zero Upper Basic b h e = h
can_move_not_zero Zero to b h e = h e
can_move_not_zero Basic to b h e = h

pub moves_up : (at to : At) (b : Rational) → IsSide at → IsSide to → CanMove at to b → IsPositive (turn at (turn to b))
moves_up Lower Lower b i j h = h
moves_up Lower Upper b i j h = positive_neg b h
moves_up Upper Lower b i j h = positive_neg b h
moves_up Upper Upper b i j h = subst (λ (z : Rational). IsPositive z) (sym (double b)) (let p : IsPositive b = h in p)
moves_up Lower Zero b i j h = absurd j
moves_up Lower Basic b i j h = absurd j
moves_up Upper Zero b i j h = absurd j
moves_up Upper Basic b i j h = absurd j
moves_up Zero to b i j h = absurd i
moves_up Basic to b i j h = absurd i

pub up_moves : (at to : At) (b : Rational) → IsSide at → IsSide to → IsPositive (turn at (turn to b)) → CanMove at to b
up_moves Lower Lower b i j h = h
up_moves Lower Upper b i j h = negative_of b h
up_moves Upper Lower b i j h = negative_of b h
up_moves Upper Upper b i j h = let p : IsPositive b = subst (λ (z : Rational). IsPositive z) (double b) h in p
up_moves Lower Zero b i j h = absurd j
up_moves Lower Basic b i j h = absurd j
up_moves Upper Zero b i j h = absurd j
up_moves Upper Basic b i j h = absurd j
up_moves Zero to b i j h = absurd i
up_moves Basic to b i j h = absurd i

-- ---- the ratio of a column
-- a number over another, times the other
over : (d b : Rational) → b ≢ whole (pos 0) → mul (mul d (inverse b)) b ≡ d
over d b ne =
    by_ring (d ∷ inverse b ∷ b ∷ []) ((var 0 ⊗ var 1) ⊗ var 2) (var 0 ⊗ (var 2 ⊗ var 1)) refl
    ∙ ap (mul d) (mul_inverse b (λ e. ne (num_of_zero b e)))
    ∙ by_ring (d ∷ []) (var 0 ⊗ unit) (var 0) refl

-- the same with signs turned
over_turned : (at to : At) (q b d : Rational) → IsSide at → IsSide to → mul q b ≡ d → mul (turn to q) (turn at (turn to b)) ≡ turn at d
over_turned Lower Lower q b d i j e = e
over_turned Lower Upper q b d i j e = by_ring (q ∷ b ∷ []) (opp (var 0) ⊗ opp (var 1)) (var 0 ⊗ var 1) refl ∙ e
over_turned Upper Lower q b d i j e = by_ring (q ∷ b ∷ []) (var 0 ⊗ opp (var 1)) (opp (var 0 ⊗ var 1)) refl ∙ ap neg e
over_turned Upper Upper q b d i j e = by_ring (q ∷ b ∷ []) (opp (var 0) ⊗ opp (opp (var 1))) (opp (var 0 ⊗ var 1)) refl ∙ ap neg e
over_turned Lower Zero q b d i j e = absurd j
over_turned Lower Basic q b d i j e = absurd j
over_turned Upper Zero q b d i j e = absurd j
over_turned Upper Basic q b d i j e = absurd j
over_turned Zero to q b d i j e = absurd i
over_turned Basic to q b d i j e = absurd i

pub stands_turned : (at : At) (d : Rational) → IsSide at → Stands at d → IsNonNegative (turn at d)
stands_turned Lower d i h = h
stands_turned Upper d i h = h
stands_turned Zero d i h = absurd i
stands_turned Basic d i h = absurd i

-- what is at least 0 after a factor above 0 was so before
nonneg_factor : (p b a : Rational) → mul p b ≡ a → IsPositive b → IsNonNegative a → IsNonNegative p
nonneg_factor p b a e hb ha =
    elim (sign_of p) [
      | inl h ↦ h
      | inr h ↦
          absurd (not_both a ha (subst (λ (z : Rational). IsPositive z) (by_ring (p ∷ b ∷ []) (opp (var 0) ⊗ var 1) (opp (var 0 ⊗ var 1)) refl ∙ ap neg e) (positive-mul (neg p) b h hb)))
    ]

zero_over : (d b : Rational) → d ≡ whole (pos 0) → mul d b ≡ whole (pos 0)
zero_over d b e = ap (λ (z : Rational). mul z b) e ∙ by_ring (b ∷ []) (nought ⊗ var 0) nought refl

pub turn_zero : (to : At) (x : Rational) → x ≡ whole (pos 0) → turn to x ≡ whole (pos 0)
turn_zero Lower x e = e
turn_zero Upper x e = ap neg e ∙ neg_zero
turn_zero Zero x e = e
turn_zero Basic x e = e

side_ratio : (at to : At) (b d : Rational) → IsSide at → IsSide to → CanMove at to b → Stands at d → IsNonNegative (turn to (mul d (inverse b)))
side_ratio at to b d i j m h =
    nonneg_factor (turn to (mul d (inverse b))) (turn at (turn to b)) (turn at d)
    (over_turned at to (mul d (inverse b)) b d i j (over d b (can_move_not_zero at to b m)))
    (moves_up at to b i j m) (stands_turned at d i h)

-- the reduced cost over the entry of a column that can move is at least 0 for a basic column that must rise, and at most 0 for one that must fall
pub ratio_side : (at to : At) (b d : Rational) → IsSide to → CanMove at to b → Stands at d → IsNonNegative (turn to (mul d (inverse b)))
ratio_side Lower to b d j m h = side_ratio Lower to b d tt j m h
ratio_side Upper to b d j m h = side_ratio Upper to b d tt j m h
ratio_side Zero to b d j m h = nonneg_zero (turn to (mul d (inverse b))) (turn_zero to (mul d (inverse b)) (zero_over d (inverse b) h))
ratio_side Basic to b d j m h = absurd m

-- so the turned ratio is its size
pub size_turned : (to : At) (q : Rational) → IsSide to → IsNonNegative (turn to q) → size q ≡ turn to q
size_turned Lower q j h = sym (size_of_other q h)
size_turned Upper q j h = by q.num refl
  where
    by : (n : ℤ) → q.num ≡ n → size q ≡ neg q
    by (pos zero) e = let z : q ≡ whole (pos 0) = num_of_zero q e in sym (size_of_other q (omega (arith, ints))) ∙ z ∙ sym (ap neg z ∙ neg_zero)
    by (pos (suc n)) e = absurd (not_both (neg q) h (subst (λ (z : Rational). IsPositive z) (sym (double q)) (let p : IsPositive q = omega (arith, ints) in p)))
    by (negsuc n) e = sym (size_of_negative q (omega (arith, ints)))
size_turned Zero q j h = absurd j
size_turned Basic q j h = absurd j

-- ---- after the step
-- a - q * b is at least 0 where a and q are, and where q is at most a over b if b is above 0
core : (a b q p : Rational) → IsNonNegative a → IsNonNegative q → (IsPositive b → (mul p b ≡ a) × IsNonNegative (add p (neg q))) → IsNonNegative (add a (neg (mul q b)))
core a b q p ha hq most =
    elim (sign_of (neg b)) [
      | inl h ↦
          subst (λ (z : Rational). IsNonNegative z) (by_ring (a ∷ q ∷ b ∷ []) (var 0 ⊕ var 1 ⊗ opp (var 2)) (var 0 ⊕ opp (var 1 ⊗ var 2)) refl)
          (nonneg-add a (mul q (neg b)) ha (nonneg-mul q (neg b) hq h))
      | inr h ↦
          let up : IsPositive b = subst (λ (z : Rational). IsPositive z) (double b) h in
          let m : (mul p b ≡ a) × IsNonNegative (add p (neg q)) = most up in
          subst (λ (z : Rational). IsNonNegative z) (by_ring (p ∷ q ∷ b ∷ []) ((var 0 ⊕ opp (var 1)) ⊗ var 2) (var 0 ⊗ var 2 ⊕ opp (var 1 ⊗ var 2)) refl ∙ ap (λ (z : Rational). add z (neg (mul q b))) m.0)
          (nonneg-mul (add p (neg q)) b m.1 (nonneg_of_positive b up))
    ]

turned_back : (at to : At) (d q b : Rational) → IsSide at → IsSide to → IsNonNegative (add (turn at d) (neg (mul (turn to q) (turn at (turn to b))))) → Stands at (add d (neg (mul q b)))
turned_back Lower Lower d q b i j h = h
turned_back Lower Upper d q b i j h = subst (λ (z : Rational). IsNonNegative z) (by_ring (d ∷ q ∷ b ∷ []) (var 0 ⊕ opp (opp (var 1) ⊗ opp (var 2))) (var 0 ⊕ opp (var 1 ⊗ var 2)) refl) h
turned_back Upper Lower d q b i j h = subst (λ (z : Rational). IsNonNegative z) (by_ring (d ∷ q ∷ b ∷ []) (opp (var 0) ⊕ opp (var 1 ⊗ opp (var 2))) (opp (var 0 ⊕ opp (var 1 ⊗ var 2))) refl) h
turned_back Upper Upper d q b i j h = subst (λ (z : Rational). IsNonNegative z) (by_ring (d ∷ q ∷ b ∷ []) (opp (var 0) ⊕ opp (opp (var 1) ⊗ opp (opp (var 2)))) (opp (var 0 ⊕ opp (var 1 ⊗ var 2))) refl) h
turned_back Lower Zero d q b i j h = absurd j
turned_back Lower Basic d q b i j h = absurd j
turned_back Upper Zero d q b i j h = absurd j
turned_back Upper Basic d q b i j h = absurd j
turned_back Zero to d q b i j h = absurd i
turned_back Basic to d q b i j h = absurd i

side_after : (at to : At) (d q b : Rational) → IsSide at → IsSide to → IsNonNegative (turn to q) → Stands at d → (CanMove at to b → IsNonNegative (add (size (mul d (inverse b))) (neg (size q)))) → Stands at (add d (neg (mul q b)))
side_after at to d q b i j hq hd most =
    turned_back at to d q b i j (core (turn at d) (turn at (turn to b)) (turn to q) (turn to (mul d (inverse b))) (stands_turned at d i hd) hq (λ up.
    let m : CanMove at to b = up_moves at to b i j up in
    let same : size (mul d (inverse b)) ≡ turn to (mul d (inverse b)) = size_turned to (mul d (inverse b)) j (side_ratio at to b d i j m hd) in (
      over_turned at to (mul d (inverse b)) b d i j (over d b (can_move_not_zero at to b m)),
      subst (λ (z : Rational). IsNonNegative z) (ap (λ (z : Rational). add z (neg (size q))) same ∙ ap (λ (z : Rational). add (turn to (mul d (inverse b))) (neg z)) (size_turned to q j hq)) (most m),
    )))

pub turn_gone : (to : At) (q : Rational) → turn to q ≡ whole (pos 0) → q ≡ whole (pos 0)
turn_gone Lower q e = e
turn_gone Upper q e = sym (double q) ∙ ap neg e ∙ neg_zero
turn_gone Zero q e = e
turn_gone Basic q e = e

size_zero : (x : Rational) → x ≡ whole (pos 0) → size x ≡ whole (pos 0)
size_zero x e = sym (size_of_other x (nonneg_zero x e)) ∙ e

zero_after : (to : At) (d q b : Rational) → IsSide to → IsNonNegative (turn to q) → d ≡ whole (pos 0) → (b ≢ whole (pos 0) → IsNonNegative (add (size (mul d (inverse b))) (neg (size q)))) → add d (neg (mul q b)) ≡ whole (pos 0)
zero_after to d q b j hq e most = by b.num refl
  where
    none : mul q b ≡ whole (pos 0) → add d (neg (mul q b)) ≡ whole (pos 0)
    none h = ap (λ (z : Rational). add z (neg (mul q b))) e ∙ ap (λ (z : Rational). add (whole (pos 0)) (neg z)) h ∙ by_ring [] (nought ⊕ opp nought) nought refl

    gone : b ≢ whole (pos 0) → q ≡ whole (pos 0)
    gone ne =
        let size_is : size q ≡ turn to q = size_turned to q j hq in
        let left : add (size (mul d (inverse b))) (neg (size q)) ≡ neg (turn to q) =
        ap (λ (z : Rational). add z (neg (size q))) (size_zero (mul d (inverse b)) (zero_over d (inverse b) e)) ∙ ap (λ (z : Rational). add (whole (pos 0)) (neg z)) size_is ∙ by_ring (turn to q ∷ []) (nought ⊕ opp (var 0)) (opp (var 0)) refl in
        turn_gone to q (zero_between (turn to q) hq (subst (λ (z : Rational). IsNonNegative z) left (most ne)))

    by : (n : ℤ) → b.num ≡ n → add d (neg (mul q b)) ≡ whole (pos 0)
    by (pos zero) f = none (ap (mul q) (num_of_zero b f) ∙ by_ring (q ∷ []) (var 0 ⊗ nought) nought refl)
    by (pos (suc n)) f = none (zero_over q b (gone (λ z. let p = zero_parts b z in omega (arith, ints))))
    by (negsuc n) f = none (zero_over q b (gone (λ z. let p = zero_parts b z in omega (arith, ints))))

-- a column that stays where it stands may have its new reduced cost there, if its ratio is not less than the least
pub stands_after : (at to : At) (d q b : Rational) → IsSide to → IsNonNegative (turn to q) → Stands at d → (CanMove at to b → IsNonNegative (add (size (mul d (inverse b))) (neg (size q)))) → Stands at (add d (neg (mul q b)))
stands_after Lower to d q b j hq hd most = side_after Lower to d q b tt j hq hd most
stands_after Upper to d q b j hq hd most = side_after Upper to d q b tt j hq hd most
stands_after Zero to d q b j hq hd most = zero_after to d q b j hq hd most
stands_after Basic to d q b j hq hd most = tt

-- the column that leaves may have the ratio as its reduced cost
pub stands_leaving : (to : At) (q : Rational) → IsSide to → IsNonNegative (turn to q) → Stands to q
stands_leaving Lower q j h = h
stands_leaving Upper q j h = h
stands_leaving Zero q j h = absurd j
stands_leaving Basic q j h = absurd j

-- ---- where columns may stand
pub stands_where : (at : At) (d : Rational) → (at ≢ Basic → IsPositive d → at ≡ Lower) → (at ≢ Basic → d.num <ℤ pos 0 → at ≡ Upper) → Stands at d
stands_where Lower d up down = elim (sign_of d) [ inl h ↦ h | inr h ↦ let e = down (λ f. cc) (negative_of d h) in cc ]
stands_where Upper d up down =
    elim (sign_of (neg d)) [
      | inl h ↦ h
      | inr h ↦ let e = up (λ f. cc) (subst (λ (z : Rational). IsPositive z) (double d) h) in cc
    ]
stands_where Zero d up down = by d.num refl
  where
    by : (n : ℤ) → d.num ≡ n → d ≡ whole (pos 0)
    by (pos zero) e = num_of_zero d e
    by (pos (suc n)) e = let f = up (λ f. cc) (omega (arith, ints)) in cc
    by (negsuc n) e = let f = down (λ f. cc) (omega (arith, ints)) in cc
stands_where Basic d up down = tt

pub positive_stands : (at : At) (d : Rational) → Stands at d → at ≢ Basic → IsPositive d → at ≡ Lower
positive_stands Lower d h ne p = refl
positive_stands Upper d h ne p = absurd (not_both (neg d) h (subst (λ (z : Rational). IsPositive z) (sym (double d)) p))
positive_stands Zero d h ne p = absurd (let e = zero_parts d h in omega (arith, ints))
positive_stands Basic d h ne p = absurd (ne refl)

pub negative_stands : (at : At) (d : Rational) → Stands at d → at ≢ Basic → d.num <ℤ pos 0 → at ≡ Upper
negative_stands Lower d h ne p = absurd (omega (arith, ints))
negative_stands Upper d h ne p = refl
negative_stands Zero d h ne p = absurd (let e = zero_parts d h in omega (arith, ints))
negative_stands Basic d h ne p = absurd (ne refl)
