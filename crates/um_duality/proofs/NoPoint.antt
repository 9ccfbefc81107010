-- Where no column may enter, the multipliers of Farkas empty the box.
use Rattle.std.proofs.Common.{◌≡◌, ◌≢◌, ℕ, ◌+◌, ◌<◌, arith, ap, sym, subst, ◌∙◌, refl, ◌⊎◌, inl, inr, List, [], ◌∷◌, length, cond, nat_eq}
use Rattle.std.specs.Prelude.{ℤ, pos, ◌*ℤ◌, ◌<ℤ◌, Option, ⊤}
use Rattle.std.proofs.lemmas.Int.{ints}
use Rattle.um_laws.specs.Rational.{Rational, whole, add, mul, neg}
use Rattle.um_laws.proofs.RationalOrder.{IsPositive, positive-mul}
use Rattle.um_laws.proofs.Ring.{var, nought, unit, ◌⊕◌, ◌⊗◌, opp}
use Rattle.um_model.specs.Values.{DeckValue}
use Rattle.um_model.specs.Boxes.{BoxValue}
use Rattle.um_model.specs.LeafValue.{leaf_total, Empties}
use Rattle.um_lp.specs.Basis.{sum_below}
use Rattle.um_lp.specs.States.{State, width, slack, system, cost_of, basic_of, at_of, state_ends_of, entry_of, value_of}
use Rattle.um_lp.specs.DualSteps.{IsOutsideAt, Leaves, CanMove, MayEnter}
use Rattle.um_lp.specs.declared.board.At.{At}
use Rattle.um_lp.specs.declared.board.At.TheVariants.{Lower, Upper, Zero, Basic}
use Rattle.um_laws.proofs.RationalEquations.{by_ring}
use Rattle.um_lp.proofs.OneNext.{one_side}
use Rattle.um_lp.proofs.Rows.{by_row}
use Rattle.um_lp.proofs.Sums.{sum-cong, sum-mul, sum-change, sum-scaled}
use Rattle.um_duality.specs.Laws.{IsOnBox, FarkasLaw}
use Rattle.um_duality.specs.Readings.{turned, AreFarkasNumbers}
use Rattle.um_duality.proofs.Wholes.{whole-positive, positive-whole, not_zero, not_both, num-under, factor-above, factor-under}
use Rattle.um_duality.proofs.LeafBridge.{Takes, IsPriced, column_at, multipliers_of, leaf-value-is, leaf-total-is}
use Rattle.um_duality.proofs.DeckBoards.{width-is}
use Rattle.um_duality.proofs.PricedBoards.{IsCombined, priced-board, takes-none, takes-end, basic-or-not}

-- ---- signs that are turned

-- to turn is to multiply by a sign
turned-is : (to : At) (x : Rational) → turned to x ≡ mul (turned to (whole (pos 1))) x
turned-is Lower x = by_ring (x ∷ []) (opp (var 0)) (opp unit ⊗ var 0) refl
turned-is Upper x = by_ring (x ∷ []) (var 0) (unit ⊗ var 0) refl
turned-is Zero x = by_ring (x ∷ []) (var 0) (unit ⊗ var 0) refl
turned-is Basic x = by_ring (x ∷ []) (var 0) (unit ⊗ var 0) refl

turned-zero : (to : At) (x : Rational) → x ≡ whole (pos 0) → turned to x ≡ whole (pos 0)
turned-zero to x e = turned-is to x ∙ ap (mul (turned to (whole (pos 1)))) e ∙ by_ring (turned to (whole (pos 1)) ∷ []) (var 0 ⊗ nought) nought refl

takes-scaled : (k factor value : Rational) (ends : Option ℤ × Option ℤ) → IsPositive k → Takes factor ends value → Takes (mul k factor) ends value
takes-scaled k factor value ends h t = record { above = λ p. t.above (factor-above k factor h p); under = λ p. t.under (factor-under k factor h p) }

-- ---- the basic column that is outside its ends

abbrev minus_one : Rational
minus_one = neg (whole (pos 1))

-- it takes the end that it is outside of, and that gains
record IsBroken (to : At) (ends : Option ℤ × Option ℤ) (value : Rational) : Type 0 where
  end : ℤ
  takes : Takes (turned to minus_one) ends (whole end)
  gains : IsPositive (mul (turned to minus_one) (add (whole end) (neg value)))

one_above : IsPositive (whole (pos 1))
one_above = whole-positive (pos 1) (omega (arith, ints))

broken : (s : State) (row : ℕ) (to : At) → IsOutsideAt s row to → IsBroken to (state_ends_of s (basic_of s row)) (value_of s (basic_of s row))
broken s row Lower h = record {
  end = h.0;
  takes = record { above = λ p. (h.0, h.1, refl); under = λ p. absurd (not_both (whole (pos 1)) one_above (subst IsPositive (by_ring [] (opp (opp (opp unit))) (opp unit) refl) p)) };
  gains = subst IsPositive (by_ring (whole h.0 ∷ value_of s (basic_of s row) ∷ []) (var 0 ⊕ opp (var 1)) (opp (opp unit) ⊗ (var 0 ⊕ opp (var 1))) refl) h.2;
}
broken s row Upper h = record {
  end = h.0;
  takes = record { above = λ p. absurd (not_both (whole (pos 1)) one_above p); under = λ p. (h.0, h.1, refl) };
  gains = subst IsPositive (by_ring (whole h.0 ∷ value_of s (basic_of s row) ∷ []) (var 1 ⊕ opp (var 0)) (opp unit ⊗ (var 0 ⊕ opp (var 1))) refl) h.2;
}
broken s row Zero h = absurd h
broken s row Basic h = absurd h

abbrev IsSide : At → Type 0
IsSide Lower = ⊤
IsSide Upper = ⊤
IsSide Zero = ⊥
IsSide Basic = ⊥

side_of : (s : State) (row : ℕ) (to : At) → IsOutsideAt s row to → IsSide to
side_of s row Lower h = tt
side_of s row Upper h = tt
side_of s row Zero h = h
side_of s row Basic h = h

-- ---- the nonbasic columns

minus_above : (x : Rational) → IsPositive (neg (neg x)) → IsPositive x
minus_above x p = subst IsPositive (by_ring (x ∷ []) (opp (opp (var 0))) (var 0) refl) p

minus_zero : (x : Rational) → IsPositive (neg x) → x ≢ whole (pos 0)
minus_zero x p e = not_zero (neg x) (ap neg e ∙ by_ring [] (opp nought) nought refl) p

-- a column that may not enter stands at the end that its turned entry takes
stands-low : (at to : At) (entry : Rational) → IsSide to → ¬ CanMove at to entry → at ≢ Basic → IsPositive (turned to entry) → at ≡ Lower
stands-low Lower to entry side none nonbasic p = refl
stands-low Basic to entry side none nonbasic p = absurd (nonbasic refl)
stands-low Upper Lower entry side none nonbasic p = absurd (none (num-under entry p))
stands-low Upper Upper entry side none nonbasic p = absurd (none p)
stands-low Zero Lower entry side none nonbasic p = absurd (none (minus_zero entry p))
stands-low Zero Upper entry side none nonbasic p = absurd (none (λ e. not_zero entry e p))
stands-low Upper Zero entry side none nonbasic p = absurd side
stands-low Upper Basic entry side none nonbasic p = absurd side
stands-low Zero Zero entry side none nonbasic p = absurd side
stands-low Zero Basic entry side none nonbasic p = absurd side

stands-high : (at to : At) (entry : Rational) → IsSide to → ¬ CanMove at to entry → at ≢ Basic → IsPositive (neg (turned to entry)) → at ≡ Upper
stands-high Upper to entry side none nonbasic p = refl
stands-high Basic to entry side none nonbasic p = absurd (nonbasic refl)
stands-high Lower Lower entry side none nonbasic p = absurd (none (minus_above entry p))
stands-high Lower Upper entry side none nonbasic p = absurd (none (num-under entry p))
stands-high Zero Lower entry side none nonbasic p = absurd (none (λ e. not_zero entry e (minus_above entry p)))
stands-high Zero Upper entry side none nonbasic p = absurd (none (minus_zero entry p))
stands-high Lower Zero entry side none nonbasic p = absurd side
stands-high Lower Basic entry side none nonbasic p = absurd side
stands-high Zero Zero entry side none nonbasic p = absurd side
stands-high Zero Basic entry side none nonbasic p = absurd side

-- ---- the leaf

module _ (d : DeckValue) (b : BoxValue) (s : State) (row : ℕ) (on : IsOnBox d b s) (to : At) (leaves : Leaves s row to) (none : (column : ℕ) → column < width s.frame → ¬ MayEnter s row to column)
    (numbers : List ℤ) (are : AreFarkasNumbers s row to numbers) where
  abbrev k : Rational
  k = are.factor

  abbrev sign : Rational
  sign = turned to (whole (pos 1))

  abbrev e : ℕ → Rational
  e j = entry_of s row j

  abbrev factor : ℕ → Rational
  factor j = mul k (turned to (e j))

  abbrev own : ℕ
  own = basic_of s row

  abbrev out : IsBroken to (state_ends_of s own) (value_of s own)
  out = broken s row to leaves.outside

  -- the basic column counts at the end that it is outside of
  abbrev value : ℕ → Rational
  value j = cond (nat_eq j own) (whole out.end) (value_of s j)

  factor-is : (j : ℕ) → factor j ≡ mul (mul k sign) (e j)
  factor-is j = ap (mul k) (turned-is to (e j)) ∙ by_ring (k ∷ sign ∷ e j ∷ []) (var 0 ⊗ (var 1 ⊗ var 2)) ((var 0 ⊗ var 1) ⊗ var 2) refl

  factor-own : factor own ≡ mul k (turned to minus_one)
  factor-own = ap (λ (x : Rational). mul k (turned to x)) (on.board.tableau.own row leaves.within)

  own_inside : own < width s.frame
  own_inside = on.board.tableau.in_range row leaves.within

  combined : IsCombined s (pos 0) numbers factor
  combined = record {
    count = are.count;
    slacks = are.multiples;
    columns = λ j l.
        factor-is j ∙ ap (mul (mul k sign)) (on.board.tableau.within row j leaves.within l)
        ∙ by_ring (mul k sign ∷ sum_below s.frame.rows (λ i. mul (e (slack s.frame i)) (system s i j)) ∷ cost_of s j ∷ []) (var 0 ⊗ opp (var 1)) (nought ⊗ var 2 ⊕ opp (var 0 ⊗ var 1)) refl
        ∙ ap (λ (x : Rational). add (mul (whole (pos 0)) (cost_of s j)) (neg x)) (sym (sum-mul s.frame.rows (mul k sign) (λ i. mul (e (slack s.frame i)) (system s i j)))
        ∙ sum-cong s.frame.rows _ _ (λ i q. by_ring (mul k sign ∷ e (slack s.frame i) ∷ system s i j ∷ []) (var 0 ⊗ (var 1 ⊗ var 2)) ((var 0 ⊗ var 1) ⊗ var 2) refl
        ∙ ap (λ (x : Rational). mul x (system s i j)) (sym (factor-is (slack s.frame i)))));
  }

  takes-own : Takes (factor own) (state_ends_of s own) (whole out.end)
  takes-own = subst (λ (x : Rational). Takes x (state_ends_of s own) (whole out.end)) (sym factor-own) (takes-scaled k (turned to minus_one) (whole out.end) (state_ends_of s own) are.positive out.takes)

  takes-other : (j : ℕ) → j < width s.frame → j ≢ own → Takes (factor j) (state_ends_of s j) (value_of s j)
  takes-other j l ne = takes-scaled k (turned to (e j)) (value_of s j) (state_ends_of s j) are.positive (go (basic-or-not (at_of s j)))
    where
      go : (at_of s j ≡ Basic) ⊎ (at_of s j ≢ Basic) → Takes (turned to (e j)) (state_ends_of s j) (value_of s j)
      go (inl h) =
          let f = on.board.basis.found j l h in
          takes-none (turned to (e j)) (value_of s j) (state_ends_of s j) (turned-zero to (e j)
          (ap e (sym f.2) ∙ on.board.tableau.others row f.0 leaves.within f.1 (λ q. ne (sym f.2 ∙ ap (basic_of s) (sym q)))))
      go (inr h) =
          takes-end s j (turned to (e j)) l on.board.values (on.feasible j l) h
          (stands-low (at_of s j) to (e j) (side_of s row to leaves.outside) (none j l) h)
          (stands-high (at_of s j) to (e j) (side_of s row to leaves.outside) (none j l) h)

  takes-all : (j : ℕ) → j < width s.frame → Takes (factor j) (state_ends_of s j) (value j)
  takes-all j l = by_row (λ t. Takes (factor j) (state_ends_of s j) (cond t (whole out.end) (value_of s j))) j own
      (λ h. subst (λ (x : ℕ). Takes (factor x) (state_ends_of s x) (whole out.end)) (sym h) takes-own) (λ h. takes-other j l h)

  priced : IsPriced d b (pos 0) numbers factor value
  priced = priced-board d b s (pos 0) numbers factor value on (λ j l. by_ring (whole (column_at d j).cost ∷ cost_of s j ∷ []) (nought ⊗ var 0) (nought ⊗ var 1) refl) combined takes-all

  value-own : value own ≡ whole out.end
  value-own = by_row (λ t. cond t (whole out.end) (value_of s own) ≡ whole out.end) own own (λ h. refl) (λ h. absurd (h refl))

  -- the row itself comes to 0
  row-zero : sum_below (width s.frame) (λ j. mul (factor j) (value_of s j)) ≡ whole (pos 0)
  row-zero =
      sum-cong (width s.frame) _ _ (λ j l. ap (λ (x : Rational). mul x (value_of s j)) (factor-is j))
      ∙ sum-scaled (width s.frame) (mul k sign) e (value_of s)
      ∙ ap (mul (mul k sign)) (on.board.values.basic row leaves.within)
      ∙ by_ring (mul k sign ∷ []) (var 0 ⊗ nought) nought refl

  parts-are : sum_below (width s.frame) (λ j. mul (factor j) (value j)) ≡ mul k (mul (turned to minus_one) (add (whole out.end) (neg (value_of s own))))
  parts-are =
      sum-change (width s.frame) own (λ j. mul (factor j) (value j)) (λ j. mul (factor j) (value_of s j)) own_inside
      (λ j l ne. by_row (λ t. mul (factor j) (cond t (whole out.end) (value_of s j)) ≡ mul (factor j) (value_of s j)) j own (λ h. absurd (ne h)) (λ h. refl))
      ∙ ap (λ (x : Rational). add x (add (mul (factor own) (value own)) (neg (mul (factor own) (value_of s own))))) row-zero
      ∙ ap (λ (x : Rational). add (whole (pos 0)) (add (mul (factor own) x) (neg (mul (factor own) (value_of s own))))) value-own
      ∙ ap (λ (x : Rational). add (whole (pos 0)) (add (mul x (whole out.end)) (neg (mul x (value_of s own))))) factor-own
      ∙ by_ring (k ∷ turned to minus_one ∷ whole out.end ∷ value_of s own ∷ []) (nought ⊕ ((var 0 ⊗ var 1) ⊗ var 2 ⊕ opp ((var 0 ⊗ var 1) ⊗ var 3))) (var 0 ⊗ (var 1 ⊗ (var 2 ⊕ opp (var 3)))) refl

  total-above : pos 0 <ℤ leaf_total d b (multipliers_of (pos 0) numbers)
  total-above =
      let nothing : pos 1000 *ℤ pos 0 *ℤ d.constant ≡ pos 0 = omega (arith, ints) in
      let sum : ℕ → Rational = λ w. sum_below w (λ j. mul (factor j) (value j)) in
      let gain : Rational = mul (turned to minus_one) (add (whole out.end) (neg (value_of s own))) in
      let is : whole (leaf_total d b (multipliers_of (pos 0) numbers)) ≡ mul k gain =
      leaf-total-is d b (pos 0) numbers factor value priced
      ∙ ap (λ (z : ℤ). add (sum (length d.columns + length d.rows)) (whole z)) nothing
      ∙ ap (λ (w : ℕ). add (sum w) (whole (pos 0))) (sym (width-is d s on.stands))
      ∙ ap (λ (x : Rational). add x (whole (pos 0))) parts-are
      ∙ by_ring (mul k gain ∷ []) (var 0 ⊕ nought) (var 0) refl in
      positive-whole (leaf_total d b (multipliers_of (pos 0) numbers)) (subst IsPositive (sym is) (positive-mul k gain are.positive out.gains))

  empties : Empties d b (multipliers_of (pos 0) numbers)
  empties = record { y0 = refl; value = leaf_total d b (multipliers_of (pos 0) numbers); value_is = leaf-value-is d b (pos 0) numbers factor value priced; above = total-above }

pub farkas-law : FarkasLaw
farkas-law d b s row y on next farkas =
    let leaves : Leaves s row next.0 = next.1 in
    let same : next.0 ≡ farkas.to = one_side s row next.0 farkas.to (on.feasible (basic_of s row) (on.board.tableau.in_range row leaves.within)).ordered leaves.outside farkas.leaves.outside in
    let none = subst (λ (to : At). (column : ℕ) → column < width s.frame → ¬ MayEnter s row to column) same next.2 in
    let is : multipliers_of (pos 0) farkas.numbers ≡ y = λ i. record { y0 = sym farkas.y0 i; rows = sym farkas.rows i } in
    subst (Empties d b) is (empties d b s row on farkas.to farkas.leaves none farkas.numbers farkas.are)
