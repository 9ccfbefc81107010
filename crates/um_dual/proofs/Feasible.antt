-- A step leaves a state dual feasible.
use Rattle.std.proofs.Common.{◌≡◌, ◌≢◌, ℕ, ◌-◌, ◌<◌, ◌≤◌, arith, sym, ap, ◌∙◌, subst, refl, inl, inr, Option, Some, None, IsSome, List, [], ◌∷◌, length, length-set}
use Rattle.std.specs.Prelude.{ℤ, suc, pos, slice_set, slice_index_or}
use Rattle.std.proofs.lemmas.List.{get_or-set_same, get_or-set_other}
use Rattle.um_laws.proofs.Ring.{var, nought, unit, ◌⊕◌, ◌⊗◌, opp}
use Rattle.um_laws.proofs.RationalOrder.{IsNonNegative, nonneg_of_positive}
use Rattle.um_laws.specs.Rational.{Rational, whole, add, mul, neg, inverse}
use Rattle.um_lp.specs.Basis.{sum_below, pivot_line}
use Rattle.um_lp.specs.Boards.{IsBoard, IsPivot, AreOrdered}
use Rattle.um_lp.specs.DualSteps.{Pivot, IsNext, IsOutsideAt, Leaves, Enters, ComesBefore, IsDualFeasible, IsDualFeasibleAt, IsStep, AreSteps, ratio}
use Rattle.um_lp.specs.States.{State, Frame, width, cost_of, basic_of, at_of, state_ends_of, entry_of, reduced_of}
use Rattle.um_lp.specs.declared.board.At.{At}
use Rattle.um_lp.specs.declared.board.At.TheVariants.{Lower, Upper, Zero, Basic}
use Rattle.um_lp.proofs.Acts.{pivot-gives}
use Rattle.um_laws.proofs.RationalEquations.{by_ring}
use Rattle.um_lp.proofs.Rows.{same_or_not}
use Rattle.um_lp.proofs.Sums.{sum-one}
use Rattle.um_dual.specs.Laws.{DualFeasibleLaw}
use Rattle.um_dual.proofs.Signs.{IsSide, turn, Stands, nonneg_zero, can_move_not_zero, ratio_side, stands_after, stands_leaving, stands_where, positive_stands, negative_stands}

-- ---- what dual feasible says of one column
-- the end at which a column stands is finite, and one at Zero has none
abbrev pub HasEnd : At → Option ℤ × Option ℤ → Type 0
HasEnd Lower ends = IsSome ends.0
HasEnd Upper ends = IsSome ends.1
HasEnd Zero ends = ends ≡ (None, None)
HasEnd Basic ends = Unit {0}

has_end : (at : At) (ends : Option ℤ × Option ℤ) → (at ≡ Lower → IsSome ends.0) → (at ≡ Upper → IsSome ends.1) → (at ≡ Zero → ends ≡ (None, None)) → HasEnd at ends
has_end Lower ends low high free = low refl
has_end Upper ends low high free = high refl
has_end Zero ends low high free = free refl
has_end Basic ends low high free = tt

-- the parts of dual feasible
record HasPlace (at : At) (d : Rational) (ends : Option ℤ × Option ℤ) : Type 0 where
  ordered : AreOrdered ends
  stands : Stands at d
  has : HasEnd at ends

place_of : (s : State) (j : ℕ) → IsDualFeasibleAt s j → HasPlace (at_of s j) (reduced_of s j) (state_ends_of s j)
place_of s j h = record {
  ordered = h.ordered;
  stands = stands_where (at_of s j) (reduced_of s j) h.positive h.negative;
  has = has_end (at_of s j) (state_ends_of s j) h.lower h.upper h.free;
}

feasible_from : (t : State) (j : ℕ) → HasPlace (at_of t j) (reduced_of t j) (state_ends_of t j) → IsDualFeasibleAt t j
feasible_from t j h = record {
  ordered = h.ordered;
  positive = positive_stands (at_of t j) (reduced_of t j) h.stands;
  negative = negative_stands (at_of t j) (reduced_of t j) h.stands;
  lower = λ e. subst (λ (at : At). HasEnd at (state_ends_of t j)) e h.has;
  upper = λ e. subst (λ (at : At). HasEnd at (state_ends_of t j)) e h.has;
  free = λ e. subst (λ (at : At). HasEnd at (state_ends_of t j)) e h.has;
}

-- ---- the column that leaves
pub side_of : (s : State) (row : ℕ) (to : At) → IsOutsideAt s row to → IsSide to
side_of s row Lower h = tt
side_of s row Upper h = tt
side_of s row Zero h = h
side_of s row Basic h = h

is_some : (o : Option ℤ) (x : ℤ) → o ≡ Some x → IsSome o
is_some o x e = subst (λ (p : Option ℤ). IsSome p) (sym e) refl

end_of : (s : State) (row : ℕ) (to : At) → IsOutsideAt s row to → HasEnd to (state_ends_of s (basic_of s row))
end_of s row Lower h = is_some (state_ends_of s (basic_of s row)).0 h.0 h.1
end_of s row Upper h = is_some (state_ends_of s (basic_of s row)).1 h.0 h.1
end_of s row Zero h = absurd h
end_of s row Basic h = absurd h

-- a basic column has the reduced cost 0
pub basic_reduced : (s : State) (row : ℕ) → IsBoard s → row < s.frame.rows → reduced_of s (basic_of s row) ≡ whole (pos 0)
basic_reduced s row b lr =
    let column : ℕ = basic_of s row in
    let f : ℕ → Rational = λ i. mul (cost_of s (basic_of s i)) (entry_of s i column) in
    let one : sum_below s.frame.rows f ≡ f row = sum-one s.frame.rows row f lr (λ i li ne. ap (mul (cost_of s (basic_of s i))) (b.tableau.others i row li lr ne) ∙ by_ring (cost_of s (basic_of s i) ∷ []) (var 0 ⊗ nought) nought refl) in
    b.reduced column (b.tableau.in_range row lr)
    ∙ ap (add (cost_of s column)) (one ∙ ap (mul (cost_of s column)) (b.tableau.own row lr))
    ∙ by_ring (cost_of s column ∷ []) (var 0 ⊕ var 0 ⊗ opp unit) nought refl

-- ---- reduced costs after the step
-- what the column that leaves gets
leaving_gets : (d i e k : Rational) → d ≡ whole (pos 0) → e ≡ neg (whole (pos 1)) → add d (mul k (mul (neg i) e)) ≡ mul k i
leaving_gets d i e k zero one =
    ap (λ (z : Rational). add z (mul k (mul (neg i) e))) zero ∙ ap (λ (z : Rational). add (whole (pos 0)) (mul k (mul (neg i) z))) one
    ∙ by_ring (k ∷ i ∷ []) (nought ⊕ var 0 ⊗ (opp (var 1) ⊗ opp unit)) (var 0 ⊗ var 1) refl

-- what another gets
other_gets : (d i e k : Rational) → add d (mul k (mul (neg i) e)) ≡ add d (neg (mul (mul k i) e))
other_gets d i e k = by_ring (d ∷ i ∷ e ∷ k ∷ []) (var 0 ⊕ var 3 ⊗ (opp (var 1) ⊗ var 2)) (var 0 ⊕ opp ((var 3 ⊗ var 1) ⊗ var 2)) refl

at_most : (s : State) (row a b : ℕ) → ComesBefore s row a b → IsNonNegative (add (ratio s row b) (neg (ratio s row a)))
at_most s row a b (inl h) = nonneg_of_positive (add (ratio s row b) (neg (ratio s row a))) h
at_most s row a b (inr (e, l)) =
    nonneg_zero (add (ratio s row b) (neg (ratio s row a))) (ap (λ (z : Rational). add (ratio s row b) (neg z)) e ∙ by_ring (ratio s row b ∷ []) (var 0 ⊕ opp (var 0)) nought refl)

-- ---- the step
-- what is known at a step; the numbers after it are those that a pivot gives
record AtStep (s t : State) (row column : ℕ) (to : At) : Type 0 where
  board : IsBoard s
  feasible : IsDualFeasible s
  leaves : Leaves s row to
  enters : Enters s row to column
  pivot : IsPivot row column to s t
  gives : (j : ℕ) → j < width s.frame → reduced_of t j ≡ add (reduced_of s j) (mul (reduced_of s column) (pivot_line (entry_of s) row column j))

-- the entering column's reduced cost over its entry
abbrev quotient : State → ℕ → ℕ → Rational
quotient s row column = mul (reduced_of s column) (inverse (entry_of s row column))

side : (s t : State) (row column : ℕ) (to : At) → AtStep s t row column to → IsSide to
side s t row column to h = side_of s row to h.leaves.outside

quotient_side : (s t : State) (row column : ℕ) (to : At) → AtStep s t row column to → IsNonNegative (turn to (quotient s row column))
quotient_side s t row column to h =
    ratio_side (at_of s column) to (entry_of s row column) (reduced_of s column) (side s t row column to h) h.enters.may (place_of s column (h.feasible column h.enters.within)).stands

-- where columns stand
at_from : (s t : State) (row column : ℕ) (to : At) (j : ℕ) → AtStep s t row column to → at_of t j ≡ slice_index_or (slice_set (slice_set s.at (basic_of s row) to) column Basic) j Zero
at_from s t row column to j h = ap (λ (xs : List At). slice_index_or xs j Zero) h.pivot.at

ends_from : (s t : State) (row column : ℕ) (to : At) (j : ℕ) → AtStep s t row column to → state_ends_of t j ≡ state_ends_of s j
ends_from s t row column to j h = ap (λ (xs : List (Option ℤ × Option ℤ)). slice_index_or xs j (None, None)) h.pivot.ends

-- from where a column stands, and with what reduced cost and ends
placed : (t : State) (j : ℕ) (at : At) (d : Rational) (ends : Option ℤ × Option ℤ) → at_of t j ≡ at → reduced_of t j ≡ d → state_ends_of t j ≡ ends → HasPlace at d ends → HasPlace (at_of t j) (reduced_of t j) (state_ends_of t j)
placed t j at d ends ea ed ee h =
    subst (λ (x : At). HasPlace x (reduced_of t j) (state_ends_of t j)) (sym ea)
    (subst (λ (x : Rational). HasPlace at x (state_ends_of t j)) (sym ed) (subst (λ (x : Option ℤ × Option ℤ). HasPlace at d x) (sym ee) h))

entering_place : (s t : State) (row column : ℕ) (to : At) → AtStep s t row column to → HasPlace (at_of t column) (reduced_of t column) (state_ends_of t column)
entering_place s t row column to h =
    let long : column < length (slice_set s.at (basic_of s row) to) = omega (arith, length-set s.at (basic_of s row) to, h.board.shape.at, h.enters.within) in
    placed t column Basic (reduced_of t column) (state_ends_of s column)
    (at_from s t row column to column h ∙ get_or-set_same (slice_set s.at (basic_of s row) to) column Basic Zero long)
    refl (ends_from s t row column to column h)
    (record { ordered = (h.feasible column h.enters.within).ordered; stands = tt; has = tt })

leaving_place : (s t : State) (row column : ℕ) (to : At) → AtStep s t row column to → basic_of s row ≢ column → HasPlace (at_of t (basic_of s row)) (reduced_of t (basic_of s row)) (state_ends_of t (basic_of s row))
leaving_place s t row column to h ne =
    let b : ℕ = basic_of s row in
    let within : b < width s.frame = h.board.tableau.in_range row h.leaves.within in
    let long : b < length s.at = omega (arith, h.board.shape.at, within) in
    placed t b to (quotient s row column) (state_ends_of s b)
    (at_from s t row column to b h ∙ get_or-set_other (slice_set s.at b to) column b Basic Zero ne ∙ get_or-set_same s.at b to Zero long)
    (h.gives b within ∙ leaving_gets (reduced_of s b) (inverse (entry_of s row column)) (entry_of s row b) (reduced_of s column) (basic_reduced s row h.board h.leaves.within) (h.board.tableau.own row h.leaves.within))
    (ends_from s t row column to b h)
    (record {
      ordered = (h.feasible b within).ordered;
      stands = stands_leaving to (quotient s row column) (side s t row column to h) (quotient_side s t row column to h);
      has = end_of s row to h.leaves.outside;
    })

other_place : (s t : State) (row column : ℕ) (to : At) (j : ℕ) → AtStep s t row column to → j < width s.frame → j ≢ column → j ≢ basic_of s row → HasPlace (at_of t j) (reduced_of t j) (state_ends_of t j)
other_place s t row column to j h within ne nb =
    let b : ℕ = basic_of s row in
    let was = place_of s j (h.feasible j within) in
    placed t j (at_of s j) (add (reduced_of s j) (neg (mul (quotient s row column) (entry_of s row j)))) (state_ends_of s j)
    (at_from s t row column to j h ∙ get_or-set_other (slice_set s.at b to) column j Basic Zero ne ∙ get_or-set_other s.at b j to Zero nb)
    (h.gives j within ∙ other_gets (reduced_of s j) (inverse (entry_of s row column)) (entry_of s row j) (reduced_of s column))
    (ends_from s t row column to j h)
    (record {
      ordered = was.ordered;
      stands =
          stands_after (at_of s j) to (reduced_of s j) (quotient s row column) (entry_of s row j) (side s t row column to h) (quotient_side s t row column to h) was.stands
          (λ may. at_most s row column j (h.enters.least j within may));
      has = was.has;
    })

feasible_after : (s t : State) (row column : ℕ) (to : At) → AtStep s t row column to → IsDualFeasible t
feasible_after s t row column to h j within =
    let inside : j < width s.frame = subst (λ (f : Frame). j < width f) h.pivot.same.frame within in
    feasible_from t j
    (elim (same_or_not j column) [
      | inl e ↦ subst (λ (i : ℕ). HasPlace (at_of t i) (reduced_of t i) (state_ends_of t i)) (sym e) (entering_place s t row column to h)
      | inr ne ↦
          elim (same_or_not j (basic_of s row)) [
            | inl e ↦ subst (λ (i : ℕ). HasPlace (at_of t i) (reduced_of t i) (state_ends_of t i)) (sym e) (leaving_place s t row column to h (λ f. ne (e ∙ f)))
            | inr nb ↦ other_place s t row column to j h inside ne nb
          ]
    ])

-- ---- what a pivot wants
pub next_not_zero : (s : State) (row column : ℕ) (to : At) → IsNext s (Pivot row column to) → entry_of s row column ≢ whole (pos 0)
next_not_zero s row column to n = can_move_not_zero (at_of s column) to (entry_of s row column) n.1.may

-- ---- runs of steps
pub more_steps : (given left : ℕ) (s between t : State) → left ≤ given → left ≢ 0 → AreSteps (given - left) s between → IsStep between t → AreSteps (given - (left - 1)) s t
more_steps given left s between t below some steps step =
    let e : given - (left - 1) ≡ suc (given - left) = omega arith in
    subst (λ (n : ℕ). AreSteps n s t) (sym e) (between, steps, step)

-- ---- the law
pub step_feasible : DualFeasibleLaw
step_feasible s t row column to b f n p =
    feasible_after s t row column to (record {
      board = b;
      feasible = f;
      leaves = n.0;
      enters = n.1;
      pivot = p;
      gives = (pivot-gives row column to s t b n.0.within n.1.within (next_not_zero s row column to n) p).reduced;
    })
