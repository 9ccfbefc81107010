-- What one step of a run does: where the columns stand, by how much they move, and what the objective gains.
use Rattle.std.proofs.Common.{◌≡◌, ◌≢◌, ℕ, ◌<◌, arith, ap, sym, ◌∙◌, subst, refl, ◌⊎◌, inl, inr, [], ◌∷◌, List, Option, length, length-set}
use Rattle.std.specs.Prelude.{ℤ, pos, slice_set, slice_index_or}
use Rattle.std.proofs.lemmas.List.{get_or-set_same, get_or-set_other}
use Rattle.um_laws.specs.Rational.{Rational, whole, add, mul, neg}
use Rattle.um_laws.proofs.Ring.{var, nought, unit, ◌⊕◌, ◌⊗◌, opp}
use Rattle.um_laws.proofs.RationalOrder.{IsNonNegative, IsPositive}
use Rattle.um_lp.specs.Basis.{sum_below, Solves, pivot_line}
use Rattle.um_lp.specs.Boards.{IsBoard}
use Rattle.um_lp.specs.DualSteps.{IsStep, IsOutsideAt, CanMove, IsDualFeasible}
use Rattle.um_lp.specs.States.{State, width, system, cost_of, basic_of, at_of, state_ends_of, entry_of, reduced_of, value_of, end_at, number_of_end}
use Rattle.um_lp.specs.declared.board.At.{At}
use Rattle.um_lp.specs.declared.board.At.TheVariants.{Lower, Upper, Zero, Basic}
use Rattle.um_lp.proofs.Acts.{pivot-gives}
use Rattle.um_laws.proofs.RationalEquations.{by_ring, difference_zero, equal_from_difference}
use Rattle.um_lp.proofs.Solutions.{tableau-solutions-law}
use Rattle.um_lp.proofs.Sums.{sum-cong, sum-add, sum-mul, sum-none, sum-one, sum-two, sum-swap}
use Rattle.um_dual.proofs.Feasible.{basic_reduced, next_not_zero, side_of}
use Rattle.um_dual.proofs.Signs.{IsSide, turn, Stands, stands_where}
use Rattle.um_dual.proofs.Sided.{changes_sum}
use Rattle.um_dual.proofs.Traces.{norm}
use Rattle.um_dual.proofs.Turns.{gain_nonneg, no_gain}

-- the sum of numbers, each times what stands at its column
abbrev pub times : ℕ → (ℕ → Rational) → (ℕ → Rational) → Rational
times w d y = sum_below w (λ j. mul (d j) (y j))

-- ---- one board
module _ (s : State) (b : IsBoard s) where
  -- a basic column has the reduced cost 0
  pub at_basic_reduced : (j : ℕ) → j < width s.frame → at_of s j ≡ Basic → reduced_of s j ≡ whole (pos 0)
  at_basic_reduced j l e = let r = b.basis.found j l e in ap (reduced_of s) (sym r.2) ∙ basic_reduced s r.0 b r.1

  -- at a solution the reduced costs come to what the costs come to
  pub reduced_times : (y : ℕ → Rational) → Solves s.frame.rows (width s.frame) (entry_of s) y → times (width s.frame) (reduced_of s) y ≡ times (width s.frame) (cost_of s) y
  reduced_times y h =
      let m : ℕ = s.frame.rows in
      let w : ℕ = width s.frame in
      let c : ℕ → Rational = cost_of s in
      let cb : ℕ → Rational = λ r. cost_of s (basic_of s r) in
      let e : ℕ → ℕ → Rational = entry_of s in
      sum-cong w _ (λ j. add (mul (c j) (y j)) (sum_below m (λ r. mul (cb r) (mul (e r j) (y j))))) (λ j l.
      ap (λ (z : Rational). mul z (y j)) (b.reduced j l)
      ∙ by_ring (c j ∷ y j ∷ sum_below m (λ r. mul (cb r) (e r j)) ∷ []) ((var 0 ⊕ var 2) ⊗ var 1) (var 0 ⊗ var 1 ⊕ var 1 ⊗ var 2) refl
      ∙ ap (add (mul (c j) (y j))) (sym (sum-mul m (y j) (λ r. mul (cb r) (e r j))) ∙ sum-cong m _ _ (λ r p. by_ring (y j ∷ cb r ∷ e r j ∷ []) (var 0 ⊗ (var 1 ⊗ var 2)) (var 1 ⊗ (var 2 ⊗ var 0)) refl)))
      ∙ sum-add w (λ j. mul (c j) (y j)) (λ j. sum_below m (λ r. mul (cb r) (mul (e r j) (y j))))
      ∙ ap (add (times w c y)) (sum-swap w m (λ j r. mul (cb r) (mul (e r j) (y j)))
      ∙ sum-none m _ (λ r l. sum-mul w (cb r) (λ j. mul (e r j) (y j)) ∙ ap (mul (cb r)) (h r l) ∙ by_ring (cb r ∷ []) (var 0 ⊗ nought) nought refl))
      ∙ by_ring (times w c y ∷ []) (var 0 ⊕ nought) (var 0) refl

-- ---- one step
side_not_basic : (to : At) → IsSide to → to ≢ Basic
side_not_basic Lower h e = cc
side_not_basic Upper h e = cc
side_not_basic Zero h e = h
side_not_basic Basic h e = h

mover_not_basic : (at to : At) (v : Rational) → CanMove at to v → at ≢ Basic
mover_not_basic Lower to v h e = cc
mover_not_basic Upper to v h e = cc
mover_not_basic Zero to v h e = cc
mover_not_basic Basic to v h e = h

-- what the leaving column lacks to its end, turned to the end's side, is above 0
pub lacks_end : (s : State) (row : ℕ) (to : At) → IsOutsideAt s row to → IsPositive (turn to (add (number_of_end (end_at to (state_ends_of s (basic_of s row)))) (neg (value_of s (basic_of s row)))))
lacks_end s row Lower h = subst (λ (x : Option ℤ). IsPositive (add (number_of_end x) (neg (value_of s (basic_of s row))))) (sym h.1) h.2
lacks_end s row Upper h =
    subst (λ (x : Option ℤ). IsPositive (neg (add (number_of_end x) (neg (value_of s (basic_of s row)))))) (sym h.1)
    (subst (λ (z : Rational). IsPositive z) (by_ring (whole h.0 ∷ value_of s (basic_of s row) ∷ []) (var 1 ⊕ opp (var 0)) (opp (var 0 ⊕ opp (var 1))) refl) h.2)
lacks_end s row Zero h = absurd h
lacks_end s row Basic h = absurd h

pub all_stand : (s : State) → IsDualFeasible s → (j : ℕ) → j < width s.frame → Stands (at_of s j) (reduced_of s j)
all_stand s f j l = stands_where (at_of s j) (reduced_of s j) (f j l).positive (f j l).negative

module _ (s a b : State) (ba : IsBoard (norm s a)) (fa : IsDualFeasible (norm s a)) (bb : IsBoard (norm s b)) (p : IsStep (norm s a) (norm s b)) where
  abbrev A : State
  A = norm s a

  abbrev B : State
  B = norm s b

  abbrev m : ℕ
  m = s.frame.rows

  abbrev w : ℕ
  w = width s.frame

  -- the column that leaves
  abbrev pub leaver : ℕ
  leaver = basic_of A p.row

  -- by how much a column moves
  abbrev pub move : ℕ → Rational
  move j = add (value_of B j) (neg (value_of A j))

  pub row_within : p.row < m
  row_within = p.next.0.within

  pub column_within : p.column < w
  column_within = p.next.1.within

  pub leaver_within : leaver < w
  leaver_within = ba.tableau.in_range p.row row_within

  pub is_side : IsSide p.to
  is_side = side_of A p.row p.to p.next.0.outside

  pub column_free : at_of A p.column ≢ Basic
  column_free = mover_not_basic (at_of A p.column) p.to (entry_of A p.row p.column) p.next.1.may

  pub leaver_basic : at_of A leaver ≡ Basic
  leaver_basic = ba.basis.named p.row row_within

  leaver_not_column : leaver ≢ p.column
  leaver_not_column e = column_free (sym (ap (at_of A) e) ∙ leaver_basic)

  at_from : (j : ℕ) → at_of B j ≡ slice_index_or (slice_set (slice_set a.at leaver p.to) p.column Basic) j Zero
  at_from j = ap (λ (xs : List At). slice_index_or xs j Zero) p.pivot.at

  pub at_column : at_of B p.column ≡ Basic
  at_column = at_from p.column ∙ get_or-set_same (slice_set a.at leaver p.to) p.column Basic Zero (omega (arith, length-set a.at leaver p.to, ba.shape.at, column_within))

  pub at_leaver : at_of B leaver ≡ p.to
  at_leaver = at_from leaver ∙ get_or-set_other (slice_set a.at leaver p.to) p.column leaver Basic Zero leaver_not_column ∙ get_or-set_same a.at leaver p.to Zero (omega (arith, ba.shape.at, leaver_within))

  pub leaver_free : at_of B leaver ≢ Basic
  leaver_free e = side_not_basic p.to is_side (sym at_leaver ∙ e)

  pub at_rest : (j : ℕ) → j ≢ p.column → j ≢ leaver → at_of B j ≡ at_of A j
  at_rest j d f = at_from j ∙ get_or-set_other (slice_set a.at leaver p.to) p.column j Basic Zero d ∙ get_or-set_other a.at leaver j p.to Zero f

  -- a column that is not basic and does not enter does not move
  at_rest_still : (j : ℕ) → j < w → j ≢ p.column → at_of A j ≢ Basic → move j ≡ whole (pos 0)
  at_rest_still j l d f =
      let not_leaver : j ≢ leaver = λ e. f (ap (at_of A) e ∙ leaver_basic) in
      let same : at_of B j ≡ at_of A j = at_rest j d not_leaver in
      difference_zero (value_of B j) (value_of A j)
      (bb.values.nonbasic j l (λ e. f (sym same ∙ e))
      ∙ ap (λ (x : At). number_of_end (end_at x (state_ends_of A j))) same
      ∙ sym (ba.values.nonbasic j l f))

  -- the values after solve the rows before
  pub after_solve : Solves m w (entry_of A) (value_of B)
  after_solve =
      (tableau-solutions-law m w (length s.frame.columns) (system A) (basic_of A) (entry_of A) (value_of B) ba.tableau).1
      ((tableau-solutions-law m w (length s.frame.columns) (system A) (basic_of B) (entry_of B) (value_of B) bb.tableau).0 bb.values.basic)

  basic_or_not : (a : At) → (a ≡ Basic) ⊎ (a ≢ Basic)
  basic_or_not Lower = inr (λ e. cc)
  basic_or_not Upper = inr (λ e. cc)
  basic_or_not Zero = inr (λ e. cc)
  basic_or_not Basic = inl refl

  -- the entering column's move times its entry is the leaving one's
  pub row_equation : mul (entry_of A p.row p.column) (move p.column) ≡ move leaver
  row_equation =
      let v : ℕ → Rational = entry_of A p.row in
      let total = changes_sum w v (value_of A) (value_of B) (ba.values.basic p.row row_within) (after_solve p.row row_within) in
      let two = sum-two w p.column leaver (λ j. mul (v j) (move j)) column_within leaver_within (λ e. leaver_not_column (sym e)) (λ j l d f. still j l d f (basic_or_not (at_of A j))) in
      equal_from_difference (mul (v p.column) (move p.column)) (move leaver)
      (by_ring (mul (v p.column) (move p.column) ∷ move leaver ∷ []) (var 0 ⊕ opp (var 1)) (var 0 ⊕ opp unit ⊗ var 1) refl
      ∙ ap (λ (z : Rational). add (mul (v p.column) (move p.column)) (mul z (move leaver))) (sym (ba.tableau.own p.row row_within))
      ∙ sym two ∙ total)
    where
      still : (j : ℕ) → j < w → j ≢ p.column → j ≢ leaver → (at_of A j ≡ Basic) ⊎ (at_of A j ≢ Basic) → mul (entry_of A p.row j) (move j) ≡ whole (pos 0)
      still j l d f (inl e) =
          let r = ba.basis.found j l e in
          ap (λ (z : Rational). mul z (move j)) (ap (entry_of A p.row) (sym r.2) ∙ ba.tableau.others p.row r.0 row_within r.1 (λ q. f (sym r.2 ∙ ap (basic_of A) (sym q))))
          ∙ by_ring (move j ∷ []) (nought ⊗ var 0) nought refl
      still j l d f (inr e) = ap (mul (entry_of A p.row j)) (at_rest_still j l d e) ∙ by_ring (entry_of A p.row j ∷ []) (var 0 ⊗ nought) nought refl

  leaver_move : IsPositive (turn p.to (move leaver))
  leaver_move =
      subst (λ (z : Rational). IsPositive (turn p.to (add z (neg (value_of A leaver)))))
      (ap (λ (x : At). number_of_end (end_at x (state_ends_of A leaver))) (sym at_leaver) ∙ sym (bb.values.nonbasic leaver leaver_within leaver_free))
      (lacks_end A p.row p.to p.next.0.outside)

  -- what the objective gains
  abbrev pub gain : Rational
  gain = mul (reduced_of A p.column) (move p.column)

  pub gain_not_below : IsNonNegative gain
  gain_not_below = gain_nonneg (at_of A p.column) p.to (entry_of A p.row p.column) (move p.column) (move leaver) (reduced_of A p.column) is_side p.next.1.may row_equation leaver_move (all_stand A fa p.column column_within)

  pub gain_none : gain ≡ whole (pos 0) → reduced_of A p.column ≡ whole (pos 0)
  gain_none = no_gain (at_of A p.column) p.to (entry_of A p.row p.column) (move p.column) (move leaver) (reduced_of A p.column) is_side p.next.1.may row_equation leaver_move (all_stand A fa p.column column_within)

  pub objective : times w (cost_of s) (value_of B) ≡ add (times w (cost_of s) (value_of A)) gain
  objective =
      let d : ℕ → Rational = reduced_of A in
      sym (reduced_times A ba (value_of B) after_solve)
      ∙ sum-cong w _ (λ j. add (mul (d j) (value_of A j)) (mul (d j) (move j))) (λ j l. by_ring (d j ∷ value_of A j ∷ value_of B j ∷ []) (var 0 ⊗ var 2) (var 0 ⊗ var 1 ⊕ var 0 ⊗ (var 2 ⊕ opp (var 1))) refl)
      ∙ sum-add w (λ j. mul (d j) (value_of A j)) (λ j. mul (d j) (move j))
      ∙ ap (λ (z : Rational). add z (sum_below w (λ j. mul (d j) (move j)))) (reduced_times A ba (value_of A) ba.values.basic)
      ∙ ap (add (times w (cost_of s) (value_of A))) (sum-one w p.column (λ j. mul (d j) (move j)) column_within (λ j l ne. still j l ne (basic_or_not (at_of A j))))
    where
      still : (j : ℕ) → j < w → j ≢ p.column → (at_of A j ≡ Basic) ⊎ (at_of A j ≢ Basic) → mul (reduced_of A j) (move j) ≡ whole (pos 0)
      still j l d (inl e) = ap (λ (z : Rational). mul z (move j)) (at_basic_reduced A ba j l e) ∙ by_ring (move j ∷ []) (nought ⊗ var 0) nought refl
      still j l d (inr e) = ap (mul (reduced_of A j)) (at_rest_still j l d e) ∙ by_ring (reduced_of A j ∷ []) (var 0 ⊗ nought) nought refl

  -- without a gain the reduced costs stay
  pub reduced_stay : reduced_of A p.column ≡ whole (pos 0) → (j : ℕ) → j < w → reduced_of B j ≡ reduced_of A j
  reduced_stay z j l =
      (pivot-gives p.row p.column p.to A B ba row_within column_within (next_not_zero A p.row p.column p.to p.next) p.pivot).reduced j l
      ∙ ap (λ (x : Rational). add (reduced_of A j) (mul x (pivot_line (entry_of A) p.row p.column j))) z
      ∙ by_ring (reduced_of A j ∷ pivot_line (entry_of A) p.row p.column j ∷ []) (var 0 ⊕ nought ⊗ var 1) (var 0) refl
