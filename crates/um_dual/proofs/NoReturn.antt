-- No basis with its statuses comes twice in a run.
use Rattle.std.proofs.Common.{◌≡◌, ◌≢◌, ℕ, ◌<◌, ◌≤◌, arith, ap, sym, ◌∙◌, subst, refl, ◌⊎◌, inl, inr, [], ◌∷◌, List, Option, Some, None, IsSome}
use Rattle.std.specs.Prelude.{ℤ, pos, negsuc, zero, suc, ◌<ℤ◌, slice_index_or}
use Rattle.std.proofs.lemmas.Int.{ints}
use Rattle.um_laws.specs.Rational.{Rational, whole, add, mul, neg, inverse}
use Rattle.um_laws.proofs.Ring.{var, nought, unit, ◌⊕◌, ◌⊗◌, opp}
use Rattle.um_laws.proofs.RationalField.{num_of_zero}
use Rattle.um_laws.proofs.RationalOrder.{IsNonNegative, IsPositive, nonneg-add, nonneg-mul, positive-mul, nonneg_of_positive}
use Rattle.um_lp.specs.Boards.{IsBoard, AreOrdered}
use Rattle.um_lp.specs.DualSteps.{IsNext, Pivot, Enters, ComesBefore, MayEnter, CanMove, Leaves, IsOutsideAt, IsDualFeasible, size, ratio}
use Rattle.um_lp.specs.States.{State, width, basic_of, at_of, state_ends_of, entry_of, reduced_of, value_of, end_at, number_of_end}
use Rattle.um_lp.specs.declared.board.At.{At}
use Rattle.um_lp.specs.declared.board.At.TheVariants.{Lower, Upper, Zero, Basic}
use Rattle.um_laws.proofs.RationalEquations.{by_ring, difference_zero}
use Rattle.um_lp.proofs.Orders.{whole_difference}
use Rattle.um_lp.proofs.Rows.{same_or_not}
use Rattle.um_dual.proofs.Signs.{IsSide, turn, double, nonneg_zero, moves_up}
use Rattle.um_num.proofs.Order.{not_below_same}
use Rattle.um_dual.specs.Laws.{NoReturnLaw}
use Rattle.um_dual.proofs.Changes.{leaving, Pair, paired, kept, greatest}
use Rattle.um_dual.proofs.Cycle.{solve_each, value_alike, entering_zero, one_reduced}
use Rattle.um_dual.proofs.Feasible.{side_of}
use Rattle.um_dual.proofs.Gains.{at_basic_reduced, lacks_end}
use Rattle.um_dual.proofs.Sided.{one_sided}
use Rattle.um_dual.proofs.Traces.{norm, Run, run_of, trace, trace_first, trace_last}
use Rattle.um_dual.proofs.Turns.{not_negative, stays, no_entry, turned_product, turn-neg, turn-add, turn-mul}

-- ---- within the ends
-- a value is not outside an end
abbrev IsWithin : At → Option ℤ × Option ℤ → Rational → Type 0
IsWithin a ends x = (e : ℤ) → end_at a ends ≡ Some e → IsNonNegative (turn a (add x (neg (whole e))))

-- where a value is outside, by its sign
outside_from : (s : State) (row : ℕ) (a : At) (e : ℤ) → IsSide a → end_at a (state_ends_of s (basic_of s row)) ≡ Some e → IsPositive (neg (turn a (add (value_of s (basic_of s row)) (neg (whole e))))) → IsOutsideAt s row a
outside_from s row Lower e i h p = (e, h, subst (λ (z : Rational). IsPositive z) (by_ring (value_of s (basic_of s row) ∷ whole e ∷ []) (opp (var 0 ⊕ opp (var 1))) (var 1 ⊕ opp (var 0)) refl) p)
outside_from s row Upper e i h p = (e, h, subst (λ (z : Rational). IsPositive z) (double (add (value_of s (basic_of s row)) (neg (whole e)))) p)
outside_from s row Zero e i h p = absurd i
outside_from s row Basic e i h p = absurd i

some_same : (a b : ℤ) (o : Option ℤ) → o ≡ Some a → o ≡ Some b → a ≡ b
some_same a b o h k = let q : Some a ≡ Some b = sym h ∙ k in cc

none_not_some : (o : Option ℤ) (e : ℤ) → o ≡ None → o ≡ Some e → ⊥
none_not_some o e h k = let q : Option.None ≡ Some e = sym h ∙ k in cc

some_none : (o : Option ℤ) → o ≡ None → IsSome o → ⊥
some_none (Some x) e h = cc
some_none None e h = cc

-- a nonbasic column whose end is finite and whose ends are in order is within them
at_end_within : (at a : At) (ends : Option ℤ × Option ℤ) (x : Rational) → IsSide a → at ≢ Basic → AreOrdered ends → (at ≡ Lower → IsSome ends.0) → (at ≡ Upper → IsSome ends.1) → (at ≡ Zero → ends ≡ (None, None))
    → x ≡ number_of_end (end_at at ends) → IsWithin a ends x
at_end_within Lower Lower ends x i nb o low up free is e h =
    nonneg_zero (add x (neg (whole e))) (difference_zero x (whole e) (is ∙ ap number_of_end h))
at_end_within Upper Upper ends x i nb o low up free is e h =
    nonneg_zero (neg (add x (neg (whole e)))) (ap neg (difference_zero x (whole e) (is ∙ ap number_of_end h)) ∙ by_ring [] (opp nought) nought refl)
at_end_within Lower Upper ends x i nb o low up free is e h = go ends.0 refl (low refl)
  where
    go : (l : Option ℤ) → ends.0 ≡ l → IsSome ends.0 → IsNonNegative (neg (add x (neg (whole e))))
    go (Some l) q some =
        subst (λ (z : Rational). IsNonNegative z)
        (by_ring (whole e ∷ whole l ∷ []) (var 0 ⊕ opp (var 1)) (opp (var 1 ⊕ opp (var 0))) refl ∙ ap (λ (z : Rational). neg (add z (neg (whole e)))) (sym (is ∙ ap number_of_end q)))
        (whole_difference l e (o l q e h))
    go None q some = absurd (some_none _ q some)
at_end_within Upper Lower ends x i nb o low up free is e h = go ends.1 refl (up refl)
  where
    go : (u : Option ℤ) → ends.1 ≡ u → IsSome ends.1 → IsNonNegative (add x (neg (whole e)))
    go (Some u) q some = subst (λ (z : Rational). IsNonNegative (add z (neg (whole e)))) (sym (is ∙ ap number_of_end q)) (whole_difference e u (o e h u q))
    go None q some = absurd (some_none _ q some)
at_end_within Zero Lower ends x i nb o low up free is e h = absurd (none_not_some ends.0 e (ap (λ (z : Option ℤ × Option ℤ). z.0) (free refl)) h)
at_end_within Zero Upper ends x i nb o low up free is e h = absurd (none_not_some ends.1 e (ap (λ (z : Option ℤ × Option ℤ). z.1) (free refl)) h)
at_end_within Basic a ends x i nb o low up free is e h = absurd (nb refl)
at_end_within Lower Zero ends x i nb o low up free is e h = absurd i
at_end_within Lower Basic ends x i nb o low up free is e h = absurd i
at_end_within Upper Zero ends x i nb o low up free is e h = absurd i
at_end_within Upper Basic ends x i nb o low up free is e h = absurd i
at_end_within Zero Zero ends x i nb o low up free is e h = absurd i
at_end_within Zero Basic ends x i nb o low up free is e h = absurd i

basic_or_not : (a : At) → (a ≡ Basic) ⊎ (a ≢ Basic)
basic_or_not Lower = inr (λ e. cc)
basic_or_not Upper = inr (λ e. cc)
basic_or_not Zero = inr (λ e. cc)
basic_or_not Basic = inl refl

-- a column before the leaving one is within its ends
within_before : (s : State) (row : ℕ) (to : At) → IsBoard s → IsDualFeasible s → Leaves s row to → (j : ℕ) → j < width s.frame → j < basic_of s row → (a : At) → IsSide a → IsWithin a (state_ends_of s j) (value_of s j)
within_before s row to b f leaves j l before a i = go (basic_or_not (at_of s j))
  where
    go : (at_of s j ≡ Basic) ⊎ (at_of s j ≢ Basic) → IsWithin a (state_ends_of s j) (value_of s j)
    go (inr nb) end h = at_end_within (at_of s j) a (state_ends_of s j) (value_of s j) i nb (f j l).ordered (f j l).lower (f j l).upper (f j l).free (b.values.nonbasic j l nb) end h
    go (inl e) end h = not_negative _ (λ p. (
        let r = b.basis.found j l e in
        let out : IsOutsideAt s r.0 a = outside_from s r.0 a end i (subst (λ (x : ℕ). end_at a (state_ends_of s x) ≡ Some end) (sym r.2) h) (subst (λ (x : ℕ). IsPositive (neg (turn a (add (value_of s x) (neg (whole end)))))) (sym r.2) p) in
        let least = leaves.least r.0 a r.1 out in
        let same = r.2 in
        absurd (omega arith)))

-- ---- reduced costs
sign_cases : (d : Rational) → (d ≡ whole (pos 0)) ⊎ (IsPositive d ⊎ (d.num <ℤ pos 0))
sign_cases d = by d.num refl
  where
    by : (n : ℤ) → d.num ≡ n → (d ≡ whole (pos 0)) ⊎ (IsPositive d ⊎ (d.num <ℤ pos 0))
    by (pos zero) e = inl (num_of_zero d e)
    by (pos (suc n)) e = inr (inl (omega (arith, ints)))
    by (negsuc n) e = inr (inr (omega (arith, ints)))

-- where an entering column has the reduced cost 0, no lesser one of reduced cost 0 may enter
none_before : (s : State) (row : ℕ) (to : At) (column : ℕ) → Enters s row to column → reduced_of s column ≡ whole (pos 0) → (j : ℕ) → j < width s.frame → j < column → reduced_of s j ≡ whole (pos 0) → ¬ MayEnter s row to j
none_before s row to column enters zero_column j l before zero_j may = go (enters.least j l may)
  where
    over : (x : ℕ) → reduced_of s x ≡ whole (pos 0) → ratio s row x ≡ size (whole (pos 0))
    over x e = ap size (ap (λ (z : Rational). mul z (inverse (entry_of s row x))) e ∙ by_ring (inverse (entry_of s row x) ∷ []) (nought ⊗ var 0) nought refl)

    go : ComesBefore s row column j → ⊥
    go (inl h) = not_below_same (ratio s row column) (ratio s row j) (over column zero_column ∙ sym (over j zero_j)) h
    go (inr h) = let k = h.1 in absurd (omega arith)

-- ---- one part of the sum
nothing : (to : At) (v d : Rational) → d ≡ whole (pos 0) → IsNonNegative (neg (mul (turn to v) d))
nothing to v d e = nonneg_zero _ (ap (λ (z : Rational). neg (mul (turn to v) z)) e ∙ by_ring (turn to v ∷ []) (opp (var 0 ⊗ nought)) nought refl)

nothing_there : (to : At) (v d : Rational) → v ≡ whole (pos 0) → IsNonNegative (neg (mul (turn to v) d))
nothing_there to v d e =
    nonneg_zero _ (ap neg (sym (turn-mul to v d)) ∙ sym (turn-neg to (mul v d)) ∙ ap (turn to) (ap (λ (z : Rational). neg (mul z d)) e ∙ by_ring (d ∷ []) (opp (nought ⊗ var 0)) nought refl) ∙ gone to)
  where
    gone : (a : At) → turn a (whole (pos 0)) ≡ whole (pos 0)
    gone Lower = refl
    gone Upper = by_ring [] (opp nought) nought refl
    gone Zero = refl
    gone Basic = refl

-- the column that leaves
leaving_part : (to : At) (v d : Rational) → v ≡ neg (whole (pos 1)) → neg (mul (turn to v) d) ≡ turn to d
leaving_part to v d e = ap neg (sym (turn-mul to v d)) ∙ sym (turn-neg to (mul v d)) ∙ ap (turn to) (ap (λ (z : Rational). neg (mul z d)) e ∙ by_ring (d ∷ []) (opp (opp unit ⊗ var 0)) (var 0) refl)

-- a nonbasic column that may not enter, from its end x to a value y that is not outside it
barred_part : (at to : At) (ends : Option ℤ × Option ℤ) (v x y : Rational) → IsSide to → at ≢ Basic → ¬ CanMove at to v → (at ≡ Lower → IsSome ends.0) → (at ≡ Upper → IsSome ends.1) → x ≡ number_of_end (end_at at ends) → ((a : At) → IsSide a → IsWithin a ends y)
    → IsNonNegative (neg (mul (turn to v) (add y (neg x))))
barred_part Basic to ends v x y j nb bars low up is within = absurd (nb refl)
barred_part Zero to ends v x y j nb bars low up is within = nothing_there to v (add y (neg x)) (no_entry v bars)
barred_part Lower to ends v x y j nb bars low up is within = go ends.0 refl (low refl)
  where
    go : (l : Option ℤ) → ends.0 ≡ l → IsSome ends.0 → IsNonNegative (neg (mul (turn to v) (add y (neg x))))
    go None q some = absurd (some_none _ q some)
    go (Some l) q some =
        subst (λ (z : Rational). IsNonNegative z)
        (by_ring (turn to v ∷ add y (neg x) ∷ []) (opp (var 0) ⊗ var 1) (opp (var 0 ⊗ var 1)) refl)
        (nonneg-mul (neg (turn to v)) (add y (neg x)) (stays Lower to v tt j bars)
        (subst (λ (z : Rational). IsNonNegative (add y (neg z))) (sym (is ∙ ap number_of_end q)) (within Lower tt l q)))
barred_part Upper to ends v x y j nb bars low up is within = go ends.1 refl (up refl)
  where
    go : (u : Option ℤ) → ends.1 ≡ u → IsSome ends.1 → IsNonNegative (neg (mul (turn to v) (add y (neg x))))
    go None q some = absurd (some_none _ q some)
    go (Some u) q some =
        subst (λ (z : Rational). IsNonNegative z)
        (by_ring (turn to v ∷ add y (neg x) ∷ []) (opp (opp (var 0)) ⊗ opp (var 1)) (opp (var 0 ⊗ var 1)) refl)
        (nonneg-mul (neg (neg (turn to v))) (neg (add y (neg x))) (stays Upper to v tt j bars)
        (subst (λ (z : Rational). IsNonNegative (neg (add y (neg z)))) (sym (is ∙ ap number_of_end q)) (within Upper tt u q)))

-- the end to which a column leaves is finite
outside_end : (s : State) (row : ℕ) (to : At) → IsOutsideAt s row to → (e : ℤ) × (end_at to (state_ends_of s (basic_of s row)) ≡ Some e)
outside_end s row Lower h = (h.0, h.1)
outside_end s row Upper h = (h.0, h.1)
outside_end s row Zero h = absurd h
outside_end s row Basic h = absurd h

-- ---- a run that comes back
module _ (s : State) (n : ℕ) (st : ℕ → State) (run : Run s n st) (again : (j : ℕ) → at_of (st 0) j ≡ at_of (st n) j) (t : ℕ)
    (most : (i : ℕ) → i < n → run.column i ≤ t) (pair : Pair s n st run t) where
  abbrev P : State
  P = norm s (st (suc pair.p))

  abbrev Q : State
  Q = norm s (st (suc pair.q))

  abbrev w : ℕ
  w = width s.frame

  abbrev r : ℕ
  r = run.row pair.p

  abbrev to : At
  to = run.to pair.p

  abbrev v : ℕ → Rational
  v = entry_of P r

  abbrev move : ℕ → Rational
  move j = add (value_of Q j) (neg (value_of P j))

  bP : IsBoard P
  bP = run.board (suc pair.p)

  bQ : IsBoard Q
  bQ = run.board (suc pair.q)

  fP : IsDualFeasible P
  fP = run.feasible (suc pair.p)

  fQ : IsDualFeasible Q
  fQ = run.feasible (suc pair.q)

  nextP : IsNext P (Pivot r (run.column pair.p) to)
  nextP = run.next pair.p pair.lp

  nextQ : IsNext Q (Pivot (run.row pair.q) (run.column pair.q) (run.to pair.q))
  nextQ = run.next pair.q pair.lq

  side : IsSide to
  side = side_of P r to nextP.0.outside

  back_side : IsSide (run.to pair.q)
  back_side = side_of Q (run.row pair.q) (run.to pair.q) nextQ.0.outside

  t_within : t < w
  t_within = subst (λ (x : ℕ). x < w) pair.enters nextP.1.within

  side_free : (a : At) → IsSide a → a ≢ Basic
  side_free Lower i e = cc
  side_free Upper i e = cc
  side_free Zero i e = i
  side_free Basic i e = i

  t_free : at_of P t ≢ Basic
  t_free e = side_free (run.to pair.q) back_side (pair.back ∙ e)

  -- the part of t is above 0
  t_part : IsPositive (neg (mul (turn to (v t)) (move t)))
  t_part =
      let a : At = run.to pair.q in
      let can : CanMove a to (v t) = subst (λ (x : At). CanMove x to (v t)) (sym pair.back) (subst (λ (x : ℕ). CanMove (at_of P x) to (v x)) pair.enters nextP.1.may) in
      let x_is : value_of P t ≡ number_of_end (end_at a (state_ends_of s t)) = bP.values.nonbasic t t_within t_free ∙ ap (λ (x : At). number_of_end (end_at x (state_ends_of s t))) (sym pair.back) in
      let lacks : IsPositive (turn a (add (number_of_end (end_at a (state_ends_of s t))) (neg (value_of Q t)))) =
      subst (λ (x : ℕ). IsPositive (turn a (add (number_of_end (end_at a (state_ends_of s x))) (neg (value_of Q x))))) pair.leaves (lacks_end Q (run.row pair.q) a nextQ.0.outside) in
      subst (λ (z : Rational). IsPositive z) (turned_product a to (v t) (move t) back_side side)
      (positive-mul (turn a (turn to (v t))) (neg (turn a (move t))) (moves_up a to (v t) back_side side can)
      (subst (λ (z : Rational). IsPositive z)
      (ap (λ (z : Rational). turn a (add z (neg (value_of Q t)))) (sym x_is)
      ∙ ap (turn a) (by_ring (value_of P t ∷ value_of Q t ∷ []) (var 0 ⊕ opp (var 1)) (opp (var 1 ⊕ opp (var 0))) refl)
      ∙ turn-neg a (move t))
      lacks))

  within : (j : ℕ) → j < w → j < t → (a : At) → IsSide a → IsWithin a (state_ends_of s j) (value_of Q j)
  within j l before = within_before Q (run.row pair.q) (run.to pair.q) bQ fQ nextQ.0 j l (subst (λ (x : ℕ). j < x) (sym pair.leaves) before)

  -- the column that leaves at p
  abbrev l : ℕ
  l = leaving s n st run pair.p

  l_within : l < w
  l_within = bP.tableau.in_range r nextP.0.within

  l_basic : at_of P l ≡ Basic
  l_basic = bP.basis.named r nextP.0.within

  l_before : l < t
  l_before = go (paired s n st run again l)
    where
      other : l ≢ t
      other e = t_free (sym (ap (at_of P) e) ∙ l_basic)

      go : Pair s n st run l ⊎ (((i : ℕ) → i < n → run.column i ≢ l) × ((i : ℕ) → i < n → leaving s n st run i ≢ l)) → l < t
      go (inl h) = let x : run.column h.p ≤ t = most h.p h.lp in let y = h.enters in let z = other in omega arith
      go (inr h) = absurd (h.1 pair.p pair.lp refl)

  l_part : IsNonNegative (neg (mul (turn to (v l)) (move l)))
  l_part =
      let end = outside_end P r to nextP.0.outside in
      let far : IsNonNegative (turn to (add (value_of Q l) (neg (whole end.0)))) = within l l_within l_before to side end.0 end.1 in
      let near : IsPositive (turn to (add (whole end.0) (neg (value_of P l)))) = subst (λ (z : Rational). IsPositive (turn to (add z (neg (value_of P l))))) (ap number_of_end end.1) (lacks_end P r to nextP.0.outside) in
      subst (λ (z : Rational). IsNonNegative z)
      (sym (turn-add to (add (value_of Q l) (neg (whole end.0))) (add (whole end.0) (neg (value_of P l))))
      ∙ ap (turn to) (by_ring (value_of Q l ∷ whole end.0 ∷ value_of P l ∷ []) ((var 0 ⊕ opp (var 1)) ⊕ (var 1 ⊕ opp (var 2))) (var 0 ⊕ opp (var 2)) refl)
      ∙ sym (leaving_part to (v l) (move l) (bP.tableau.own r nextP.0.within)))
      (nonneg-add (turn to (add (value_of Q l) (neg (whole end.0)))) (turn to (add (whole end.0) (neg (value_of P l)))) far (nonneg_of_positive (turn to (add (whole end.0) (neg (value_of P l)))) near))

  -- a basic column
  basic_part : (j : ℕ) → j < w → at_of P j ≡ Basic → IsNonNegative (neg (mul (turn to (v j)) (move j)))
  basic_part j lj e = go (bP.basis.found j lj e)
    where
      go : (i : ℕ) × (i < s.frame.rows) × (basic_of P i ≡ j) → IsNonNegative (neg (mul (turn to (v j)) (move j)))
      go (i, li, is) =
          elim (same_or_not i r) [
            | inl q ↦ subst (λ (x : ℕ). IsNonNegative (neg (mul (turn to (v x)) (move x)))) (ap (basic_of P) (sym q) ∙ is) l_part
            | inr d ↦ nothing_there to (v j) (move j) (ap v (sym is) ∙ bP.tableau.others r i nextP.0.within li (λ q. d (sym q)))
          ]

  -- a column that stands alike at both
  alike_part : (j : ℕ) → j < w → at_of P j ≢ Basic → at_of Q j ≡ at_of P j → IsNonNegative (neg (mul (turn to (v j)) (move j)))
  alike_part j lj nb e = nothing to (v j) (move j) (difference_zero (value_of Q j) (value_of P j) (value_alike s (st (suc pair.p)) (st (suc pair.q)) bP bQ j lj nb e))

  -- a column after t never changes
  after_part : (j : ℕ) → j < w → at_of P j ≢ Basic → t < j → IsNonNegative (neg (mul (turn to (v j)) (move j)))
  after_part j lj nb after = go (paired s n st run again j)
    where
      go : Pair s n st run j ⊎ (((i : ℕ) → i < n → run.column i ≢ j) × ((i : ℕ) → i < n → leaving s n st run i ≢ j)) → IsNonNegative (neg (mul (turn to (v j)) (move j)))
      go (inl h) = absurd (let x : run.column h.p ≤ t = most h.p h.lp in let y = h.enters in omega arith)
      go (inr h) =
          let lp = pair.lp in
          let lq = pair.lq in
          alike_part j lj nb (sym (kept s n st run j h.0 h.1 (suc pair.q) (omega arith)) ∙ kept s n st run j h.0 h.1 (suc pair.p) (omega arith))

  reduced_alike : (j : ℕ) → j < w → reduced_of Q j ≡ reduced_of P j
  reduced_alike j lj = let lp = pair.lp in let lq = pair.lq in sym (one_reduced s n st run again (suc pair.q) (omega arith) j lj) ∙ one_reduced s n st run again (suc pair.p) (omega arith) j lj

  t_zero : reduced_of P (run.column pair.p) ≡ whole (pos 0)
  t_zero = entering_zero s n st run again pair.p pair.lp

  -- a column before t
  before_part : (j : ℕ) → j < w → at_of P j ≢ Basic → j < t → IsNonNegative (neg (mul (turn to (v j)) (move j)))
  before_part j lj nb before = go (sign_cases (reduced_of P j))
    where
      free_there : reduced_of P j ≢ whole (pos 0) → at_of Q j ≢ Basic
      free_there ne e = ne (sym (reduced_alike j lj) ∙ at_basic_reduced Q bQ j lj e)

      not_zero : IsPositive (reduced_of P j) → reduced_of P j ≢ whole (pos 0)
      not_zero p e = not_below_same (whole (pos 0)) (reduced_of P j) (sym e) (subst (λ (z : Rational). IsPositive z) (by_ring (reduced_of P j ∷ []) (var 0) (var 0 ⊕ opp nought) refl) p)

      not_zero_below : (reduced_of P j).num <ℤ pos 0 → reduced_of P j ≢ whole (pos 0)
      not_zero_below p e = let h : IsNonNegative (reduced_of P j) = nonneg_zero (reduced_of P j) e in omega (arith, ints)

      go : (reduced_of P j ≡ whole (pos 0)) ⊎ (IsPositive (reduced_of P j) ⊎ ((reduced_of P j).num <ℤ pos 0)) → IsNonNegative (neg (mul (turn to (v j)) (move j)))
      go (inl e) =
          barred_part (at_of P j) to (state_ends_of s j) (v j) (value_of P j) (value_of Q j) side nb
          (none_before P r to (run.column pair.p) nextP.1 t_zero j lj (subst (λ (x : ℕ). j < x) (sym pair.enters) before) e)
          (fP j lj).lower (fP j lj).upper (bP.values.nonbasic j lj nb) (within j lj before)
      go (inr (inl p)) =
          alike_part j lj nb
          ((fQ j lj).positive (free_there (not_zero p)) (subst (λ (z : Rational). IsPositive z) (sym (reduced_alike j lj)) p)
          ∙ sym ((fP j lj).positive nb p))
      go (inr (inr p)) =
          alike_part j lj nb
          ((fQ j lj).negative (free_there (not_zero_below p)) (subst (λ (z : Rational). z.num <ℤ pos 0) (sym (reduced_alike j lj)) p)
          ∙ sym ((fP j lj).negative nb p))

  each_part : (j : ℕ) → j < w → IsNonNegative (neg (mul (turn to (v j)) (move j)))
  each_part j lj = by_status (basic_or_not (at_of P j))
    where
      three : (a b : ℕ) → (a ≡ b) ⊎ ((a < b) ⊎ (b < a))
      three a b = grind arith

      by_place : at_of P j ≢ Basic → (j ≡ t) ⊎ ((j < t) ⊎ (t < j)) → IsNonNegative (neg (mul (turn to (v j)) (move j)))
      by_place nb (inl e) = subst (λ (x : ℕ). IsNonNegative (neg (mul (turn to (v x)) (move x)))) (sym e) (nonneg_of_positive (neg (mul (turn to (v t)) (move t))) t_part)
      by_place nb (inr (inl before)) = before_part j lj nb before
      by_place nb (inr (inr after)) = after_part j lj nb after

      by_status : (at_of P j ≡ Basic) ⊎ (at_of P j ≢ Basic) → IsNonNegative (neg (mul (turn to (v j)) (move j)))
      by_status (inl e) = basic_part j lj e
      by_status (inr nb) = by_place nb (three j t)

  contradiction : ⊥
  contradiction =
      one_sided to w t v (value_of P) (value_of Q) (bP.values.basic r nextP.0.within)
      (solve_each s (st (suc pair.p)) (st (suc pair.q)) bP bQ r nextP.0.within) t_within each_part t_part

never_again : (s : State) (n : ℕ) (st : ℕ → State) → Run s n st → 1 ≤ n → ((j : ℕ) → at_of (st 0) j ≡ at_of (st n) j) → ⊥
never_again s n st run l again =
    let top = greatest n run.column l in
    elim (paired s n st run again (run.column top.0)) [
      | inl pair ↦ contradiction s n st run again (run.column top.0) top.2 pair
      | inr h ↦ absurd (h.0 top.0 top.1 refl)
    ]

pub no_return : NoReturnLaw
no_return n s t l steps b f same =
    never_again s n (trace n s t steps) (run_of n s t steps b f) l
    (λ j. ap (λ (x : State). at_of x j) (trace_first n s t steps) ∙ ap (λ (x : List At). slice_index_or x j Zero) same ∙ sym (ap (λ (x : State). at_of x j) (trace_last n s t steps)))
