-- Sums of parts that are all on one side.
use Rattle.std.proofs.Common.{◌≡◌, ℕ, ◌<◌, arith, ap, ◌∙◌, sym, subst, refl, [], ◌∷◌, ◌⊎◌, inl, inr}
use Rattle.std.specs.Prelude.{pos, zero, suc}
use Rattle.std.proofs.lemmas.Int.{ints}
use Rattle.um_laws.specs.Rational.{Rational, whole, add, mul, neg}
use Rattle.um_laws.proofs.Ring.{var, nought, ◌⊕◌, ◌⊗◌, opp}
use Rattle.um_laws.proofs.RationalOrder.{IsNonNegative, IsPositive, nonneg-add, positive-add}
use Rattle.um_laws.proofs.RationalField.{add_comm}
use Rattle.um_num.proofs.Parts.{zero_parts}
use Rattle.um_lp.specs.Basis.{sum_below}
use Rattle.um_laws.proofs.RationalEquations.{by_ring, difference_zero}
use Rattle.um_lp.proofs.Sums.{sum-cong, sum-add, sum-neg}
use Rattle.um_dual.proofs.Signs.{turn, turn_zero}
use Rattle.um_lp.specs.declared.board.At.{At}
use Rattle.um_lp.specs.declared.board.At.TheVariants.{Lower, Upper, Zero, Basic}
use Rattle.um_dual.proofs.Turns.{zero_not_positive, zero_or_positive, turn-mul}

last_or : (r m : ℕ) → r < suc m → (r ≡ m) ⊎ (r < m)
last_or r m h = grind arith

pub sum_nonneg : (m : ℕ) (f : ℕ → Rational) → ((i : ℕ) → i < m → IsNonNegative (f i)) → IsNonNegative (sum_below m f)
sum_nonneg zero f h = let e = zero_parts (whole (pos 0)) refl in omega (arith, ints)
sum_nonneg (suc m) f h = nonneg-add (sum_below m f) (f m) (sum_nonneg m f (λ i l. h i (omega arith))) (h m (omega arith))

-- no sum of parts that are at least 0, one of them above 0, is 0
pub sum_positive : (m r : ℕ) (f : ℕ → Rational) → r < m → ((i : ℕ) → i < m → IsNonNegative (f i)) → IsPositive (f r) → IsPositive (sum_below m f)
sum_positive zero r f l h p = absurd (omega arith)
sum_positive (suc m) r f l h p =
    elim (last_or r m l) [
      | inl e ↦ positive-add (sum_below m f) (f m) (sum_nonneg m f (λ i k. h i (omega arith))) (subst (λ (n : ℕ). IsPositive (f n)) e p)
      | inr k ↦ subst (λ (z : Rational). IsPositive z) (add_comm (f m) (sum_below m f)) (positive-add (f m) (sum_below m f) (h m (omega arith)) (sum_positive m r f k (λ i q. h i (omega arith)) p))
    ]

-- parts that are at least 0 are all 0 where their sum is
pub all_zero : (m : ℕ) (f : ℕ → Rational) → ((i : ℕ) → i < m → IsNonNegative (f i)) → sum_below m f ≡ whole (pos 0) → (r : ℕ) → r < m → f r ≡ whole (pos 0)
all_zero m f h e r l = zero_or_positive (f r) (h r l) (λ p. zero_not_positive (sum_below m f) e (sum_positive m r f l h p))

sum-turn : (to : At) (m : ℕ) (v d : ℕ → Rational) → sum_below m (λ j. mul (turn to (v j)) (d j)) ≡ turn to (sum_below m (λ j. mul (v j) (d j)))
sum-turn Lower m v d = refl
sum-turn Upper m v d = sum-cong m _ (λ j. neg (mul (v j) (d j))) (λ j l. sym (turn-mul Upper (v j) (d j))) ∙ sum-neg m (λ j. mul (v j) (d j))
sum-turn Zero m v d = refl
sum-turn Basic m v d = refl

-- the changes of a row that is 0 at two points sum to 0
pub changes_sum : (w : ℕ) (v x y : ℕ → Rational) → sum_below w (λ j. mul (v j) (x j)) ≡ whole (pos 0) → sum_below w (λ j. mul (v j) (y j)) ≡ whole (pos 0)
    → sum_below w (λ j. mul (v j) (add (y j) (neg (x j)))) ≡ whole (pos 0)
changes_sum w v x y ex ey =
    sum-cong w _ (λ j. add (mul (v j) (y j)) (neg (mul (v j) (x j)))) (λ j l. by_ring (v j ∷ y j ∷ x j ∷ []) (var 0 ⊗ (var 1 ⊕ opp (var 2))) (var 0 ⊗ var 1 ⊕ opp (var 0 ⊗ var 2)) refl)
    ∙ sum-add w (λ j. mul (v j) (y j)) (λ j. neg (mul (v j) (x j))) ∙ ap (add _) (sum-neg w (λ j. mul (v j) (x j))) ∙ difference_zero _ _ (ey ∙ sym ex)

-- a row that is 0 at two points can't have all its changes on one side, and one of them strictly
pub one_sided : (to : At) (w r : ℕ) (v x y : ℕ → Rational) → sum_below w (λ j. mul (v j) (x j)) ≡ whole (pos 0) → sum_below w (λ j. mul (v j) (y j)) ≡ whole (pos 0)
    → r < w → ((j : ℕ) → j < w → IsNonNegative (neg (mul (turn to (v j)) (add (y j) (neg (x j)))))) → IsPositive (neg (mul (turn to (v r)) (add (y r) (neg (x r))))) → ⊥
one_sided to w r v x y ex ey l h p =
    zero_not_positive _
    (sum-neg w (λ j. mul (turn to (v j)) (add (y j) (neg (x j)))) ∙ ap neg (sum-turn to w v (λ j. add (y j) (neg (x j))) ∙ turn_zero to _ (changes_sum w v x y ex ey)) ∙ by_ring [] (opp nought) nought refl)
    (sum_positive w r (λ j. neg (mul (turn to (v j)) (add (y j) (neg (x j))))) l h p)
