-- The start problem never ends without a point: at 0 all rows hold, within all ends.
use Rattle.std.proofs.Common.{◌≡◌, ℕ, ◌<◌, ap, sym, subst, ◌∙◌, refl, inl, inr, [], ◌∷◌, Option}
use Rattle.std.specs.Prelude.{ℤ}
use Rattle.um_laws.specs.Rational.{Rational, whole, add, mul, neg}
use Rattle.um_laws.proofs.RationalOrder.{IsNonNegative, IsPositive, nonneg-mul, positive-add, nonneg_of_positive}
use Rattle.um_laws.proofs.RationalEquations.{by_ring}
use Rattle.um_laws.proofs.Ring.{var, nought, unit, ◌⊕◌, ◌⊗◌, opp}
use Rattle.um_model.specs.Values.{DeckValue}
use Rattle.um_model.specs.Boxes.{root}
use Rattle.um_lp.specs.Basis.{sum_below}
use Rattle.um_lp.specs.DualSteps.{Leaves, IsOutsideAt, CanMove, MayEnter}
use Rattle.um_lp.specs.States.{State, width, at_of, state_ends_of, basic_of, entry_of, value_of}
use Rattle.um_lp.specs.declared.board.At.{At}
use Rattle.um_lp.specs.declared.board.At.TheVariants.{Lower, Upper, Zero, Basic}
use Rattle.um_lp.proofs.Rows.{same_or_not}
use Rattle.um_lp.proofs.Sums.{sum-neg}
use Rattle.um_dual.proofs.Sided.{sum_positive}
use Rattle.um_dual.proofs.Signs.{IsSide, turn, nonneg_zero, turn_zero}
use Rattle.um_dual.proofs.Turns.{zero_not_positive, stays, turn-mul}
use Rattle.um_duality.specs.Laws.{IsOnBox}
use Rattle.um_duality.proofs.PricedBoards.{basic-or-not}
use Rattle.um_ray.specs.Directions.{directions}
use Rattle.um_ray.specs.Laws.{PointLaw}
use Rattle.um_ray.proofs.MovingEnds.{AreMoving}
use Rattle.um_ray.proofs.Sides.{Leans, moves, nonbasic_leans, above_nought, own}
use Rattle.um_ray.proofs.Values.{under_nought}

turn-sum : (to : At) (w : ℕ) (f : ℕ → Rational) → sum_below w (λ j. turn to (f j)) ≡ turn to (sum_below w f)
turn-sum Lower w f = refl
turn-sum Upper w f = sum-neg w f
turn-sum Zero w f = refl
turn-sum Basic w f = refl

outside_side : (s : State) (row : ℕ) (to : At) → IsOutsideAt s row to → IsSide to
outside_side s row Lower h = tt
outside_side s row Upper h = tt
outside_side s row Zero h = h
outside_side s row Basic h = h

-- a column that cannot help takes nothing from the row
helps_not : (at to : At) (e v : Rational) → IsSide to → ¬ CanMove at to e → Leans at v → IsNonNegative (turn to (mul e v))
helps_not Lower to e v side none leans =
    subst IsNonNegative (by_ring (turn to e ∷ v ∷ []) (opp (var 0) ⊗ opp (var 1)) (var 0 ⊗ var 1) refl ∙ sym (turn-mul to e v))
    (nonneg-mul (neg (turn to e)) (neg v) (stays Lower to e tt side none) leans)
helps_not Upper to e v side none leans =
    subst IsNonNegative (by_ring (turn to e ∷ v ∷ []) (opp (opp (var 0)) ⊗ var 1) (var 0 ⊗ var 1) refl ∙ sym (turn-mul to e v))
    (nonneg-mul (neg (neg (turn to e))) v (stays Upper to e tt side none) leans)
helps_not Zero to e v side none leans = nonneg_zero (turn to (mul e v)) (turn_zero to (mul e v) (ap (mul e) leans ∙ by_ring (e ∷ []) (var 0 ⊗ nought) nought refl))
helps_not Basic to e v side none leans = nonneg_zero (turn to (mul e v)) (turn_zero to (mul e v) (ap (mul e) leans ∙ by_ring (e ∷ []) (var 0 ⊗ nought) nought refl))

-- a value outside the ends is on that side of 0
beyond : (s : State) (row : ℕ) (to : At) (own : Option ℤ × Option ℤ) → AreMoving own (state_ends_of s (basic_of s row)) → IsOutsideAt s row to → IsPositive (turn to (neg (value_of s (basic_of s row))))
beyond s row Lower own m h =
    let v : Rational = value_of s (basic_of s row) in
    let l : Rational = whole h.0 in
    subst IsPositive (by_ring (l ∷ v ∷ []) (opp (var 0) ⊕ (var 0 ⊕ opp (var 1))) (opp (var 1)) refl) (positive-add (neg l) (add l (neg v)) (under_nought h.0 (m.low h.0 h.1)) h.2)
beyond s row Upper own m h =
    let v : Rational = value_of s (basic_of s row) in
    let k : Rational = whole h.0 in
    subst IsPositive (by_ring (k ∷ v ∷ []) (var 0 ⊕ (var 1 ⊕ opp (var 0))) (opp (opp (var 1))) refl) (positive-add k (add v (neg k)) (above_nought h.0 (m.high h.0 h.1)) h.2)
beyond s row Zero own m h = absurd h
beyond s row Basic own m h = absurd h

module _ (d : DeckValue) (t : State) (on : IsOnBox (directions d) (root (directions d)) t) (row : ℕ) (to : At) (leaves : Leaves t row to) (none : (column : ℕ) → column < width t.frame → ¬ MayEnter t row to column) where
  abbrev w : ℕ
  w = width t.frame

  abbrev b : ℕ
  b = basic_of t row

  abbrev taken : ℕ → Rational
  taken j = turn to (mul (entry_of t row j) (value_of t j))

  b_within : b < w
  b_within = on.board.tableau.in_range row leaves.within

  side : IsSide to
  side = outside_side t row to leaves.outside

  own_taken : IsPositive (taken b)
  own_taken =
      subst IsPositive (ap (turn to) (by_ring (value_of t b ∷ []) (opp (var 0)) (opp unit ⊗ var 0) refl ∙ ap (λ (x : Rational). mul x (value_of t b)) (sym (on.board.tableau.own row leaves.within))))
      (beyond t row to (own d t on b) (moves d t on b b_within) leaves.outside)

  basic_taken : (r : ℕ) → r < t.frame.rows → IsNonNegative (taken (basic_of t r))
  basic_taken r l = elim (same_or_not r row) [
    | inl e ↦ subst (λ (i : ℕ). IsNonNegative (taken (basic_of t i))) (sym e) (nonneg_of_positive (taken b) own_taken)
    | inr ne ↦ nonneg_zero (taken (basic_of t r)) (turn_zero to (mul (entry_of t row (basic_of t r)) (value_of t (basic_of t r)))
        (ap (λ (x : Rational). mul x (value_of t (basic_of t r))) (on.board.tableau.others row r leaves.within l (λ e. ne (sym e))) ∙ by_ring (value_of t (basic_of t r) ∷ []) (nought ⊗ var 0) nought refl))
  ]

  each_taken : (j : ℕ) → j < w → IsNonNegative (taken j)
  each_taken j l = elim (basic-or-not (at_of t j)) [
    | inl e ↦ (let f = on.board.basis.found j l e in subst (λ (i : ℕ). IsNonNegative (taken i)) f.2 (basic_taken f.0 f.1))
    | inr ne ↦ helps_not (at_of t j) to (entry_of t row j) (value_of t j) side (none j l) (nonbasic_leans d t on j l ne)
  ]

  never : ⊥
  never =
      zero_not_positive (sum_below w taken)
      (turn-sum to w (λ j. mul (entry_of t row j) (value_of t j)) ∙ turn_zero to (sum_below w (λ j. mul (entry_of t row j) (value_of t j))) (on.board.values.basic row leaves.within))
      (sum_positive w b taken b_within each_taken own_taken)

pub point-law : PointLaw
point-law d t row on h = never d t on row h.0 h.1 h.2
