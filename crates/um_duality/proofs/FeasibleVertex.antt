-- The vertex of a board that has ended on a box satisfies the rows and lies within the ends of the box.
use Rattle.std.proofs.Common.{◌≡◌, ◌≢◌, ℕ, ◌+◌, ◌<◌, arith, ap, sym, subst, ◌∙◌, refl, List, [], ◌∷◌, length, Bool, false, cond}
use Rattle.std.specs.Prelude.{ℤ, pos, ◌+ℤ◌, ◌*ℤ◌, ◌≤ℤ◌, slice_index_or, Option, Some, None}
use Rattle.std.specs.List.{list_any, enumerate_from}
use Rattle.std.proofs.lemmas.Int.{ints}
use Rattle.um_laws.specs.Rational.{Rational, whole, add, mul, neg}
use Rattle.um_laws.proofs.RationalOrder.{IsNonNegative, IsPositive, nonneg-mul}
use Rattle.um_laws.proofs.Ring.{var, unit, ◌⊕◌, ◌⊗◌, opp}
use Rattle.um_model.specs.Values.{DeckValue, ColumnValue, SetValue, PointValue}
use Rattle.um_model.specs.Boxes.{BoxValue, Ends, free, root, ends_at, ends_of, span_at, is_outside, is_shut_out}
use Rattle.um_model.specs.Feasible.{part, AllPlaces, Between, linear_sum, row_times, coefficient, RowHolds}
use Rattle.um_model.specs.declared.deck.Row.{Row}
use Rattle.um_model.specs.declared.deck.Kind.TheVariants.{Continuous, Integer, Semi}
use Rattle.um_laws.proofs.Places.{get_of, at_map}
use Rattle.um_lp.specs.States as lp
use Rattle.um_lp.specs.States.{State, width, at_of, value_of, basic_of, end_at, number_of_end, system}
use Rattle.um_lp.specs.Basis.{sum_below, Solves}
use Rattle.um_lp.specs.Boards.{AreOrdered}
use Rattle.um_lp.specs.DualSteps.{IsNext, Ended, IsDualFeasibleAt, IsOutsideAt}
use Rattle.um_lp.specs.declared.board.At.{At}
use Rattle.um_lp.specs.declared.board.At.TheVariants.{Lower, Upper, Zero, Basic}
use Rattle.um_laws.proofs.RationalEquations.{by_ring}
use Rattle.um_lp.proofs.Denominators.{denominator_positive}
use Rattle.um_lp.proofs.Orders.{whole_difference}
use Rattle.um_lp.proofs.Solutions.{tableau-solutions-law}
use Rattle.um_duality.specs.Laws.{IsOnBox, HoldsOnBox, VertexLaw, ContinuousLaw}
use Rattle.um_duality.specs.Boxed.{row_ends, ends_on}
use Rattle.um_duality.specs.Relaxed.{side_end}
use Rattle.um_duality.specs.Readings.{natural_values, vertex}
use Rattle.um_duality.proofs.Wholes.{AtMost, not_below, at_most_same, whole-at_most, whole-mul, whole-positive, factor-above}
use Rattle.um_duality.proofs.DeckBoards.{columns-is, width-is, slack-value}
use Rattle.um_duality.proofs.LeafBridge.{column_at, ends-column, ends-slack}
use Rattle.um_duality.proofs.PricedBoards.{some_of}
use Rattle.um_duality.proofs.ReadNumbers.{thousandth, thousand-times, parts-length, part-is, dot-is, no-squares}

-- ---- values within their ends

record IsInside (ends : Option ℤ × Option ℤ) (value : Rational) : Type 0 where
  low : (l : ℤ) → ends.0 ≡ Some l → AtMost (whole l) value
  high : (h : ℤ) → ends.1 ≡ Some h → AtMost value (whole h)

same_some : (x y : ℤ) (o : Option ℤ) → o ≡ Some x → o ≡ Some y → x ≡ y
same_some x y o e f = cc

low-inside : (ends : Option ℤ × Option ℤ) (value : Rational) (l : ℤ) → AreOrdered ends → ends.0 ≡ Some l → value ≡ whole l → IsInside ends value
low-inside ends value l ordered e v = record {
  low = λ x f. at_most_same (whole x) value (ap whole (same_some x l ends.0 f e) ∙ sym v);
  high = λ x f. subst (λ (z : Rational). AtMost z (whole x)) (sym v) (whole_difference l x (ordered l e x f));
}

high-inside : (ends : Option ℤ × Option ℤ) (value : Rational) (h : ℤ) → AreOrdered ends → ends.1 ≡ Some h → value ≡ whole h → IsInside ends value
high-inside ends value h ordered e v = record {
  low = λ x f. subst (λ (z : Rational). AtMost (whole x) z) (sym v) (whole_difference x h (ordered x f h e));
  high = λ x f. at_most_same value (whole x) (v ∙ ap whole (same_some h x ends.1 e f));
}

free-inside : (ends : Option ℤ × Option ℤ) (value : Rational) → ends ≡ (None, None) → IsInside ends value
free-inside ends value e = record {
  low = λ x f. (let g : None ≡ Some x = sym (ap (λ (p : Option ℤ × Option ℤ). p.0) e) ∙ f in absurd (cc));
  high = λ x f. (let g : None ≡ Some x = sym (ap (λ (p : Option ℤ × Option ℤ). p.1) e) ∙ f in absurd (cc));
}

nonbasic-inside : (s : State) (j : ℕ) → IsDualFeasibleAt s j → (a : At) → at_of s j ≡ a → a ≢ Basic → value_of s j ≡ number_of_end (end_at a (lp.state_ends_of s j)) → IsInside (lp.state_ends_of s j) (value_of s j)
nonbasic-inside s j feasible Lower is nonbasic v = let l = some_of (lp.state_ends_of s j).0 (feasible.lower is) in low-inside (lp.state_ends_of s j) (value_of s j) l.0 feasible.ordered l.1 (v ∙ ap number_of_end l.1)
nonbasic-inside s j feasible Upper is nonbasic v = let h = some_of (lp.state_ends_of s j).1 (feasible.upper is) in high-inside (lp.state_ends_of s j) (value_of s j) h.0 feasible.ordered h.1 (v ∙ ap number_of_end h.1)
nonbasic-inside s j feasible Zero is nonbasic v = free-inside (lp.state_ends_of s j) (value_of s j) (feasible.free is)
nonbasic-inside s j feasible Basic is nonbasic v = absurd (nonbasic refl)

basic-inside : (s : State) (row : ℕ) → ((side : At) → ¬ IsOutsideAt s row side) → IsInside (lp.state_ends_of s (basic_of s row)) (value_of s (basic_of s row))
basic-inside s row none = record {
  low = λ l e. not_below (whole l) (value_of s (basic_of s row)) (λ h. none Lower (l, e, h));
  high = λ l e. not_below (value_of s (basic_of s row)) (whole l) (λ h. none Upper (l, e, h));
}

-- ---- orders of whole numbers from those of rational numbers

at_most-times : (a b : ℤ) (k x y : Rational) → IsNonNegative k → whole a ≡ mul k x → whole b ≡ mul k y → AtMost x y → a ≤ℤ b
at_most-times a b k x y h e f p =
    let g : IsNonNegative (mul k (add y (neg x))) = nonneg-mul k (add y (neg x)) h p in
    let i : mul k (add y (neg x)) ≡ add (whole b) (neg (whole a)) = by_ring (k ∷ x ∷ y ∷ []) (var 0 ⊗ (var 2 ⊕ opp (var 1))) (var 0 ⊗ var 2 ⊕ opp (var 0 ⊗ var 1)) refl ∙ ap (λ (z : Rational). add z (neg (mul k x))) (sym f) ∙ ap (λ (z : Rational). add (whole b) (neg z)) (sym e) in
    whole-at_most a b (subst IsNonNegative i g)

-- ---- the ends of the root box

no_set_there : (d : DeckValue) (b : BoxValue) (column : ℕ) → d.sets ≡ [] → is_shut_out d b column ≡ false
no_set_there d b column e = ap (λ (ss : List SetValue). list_any (λ (s : ℕ × SetValue). is_outside (span_at b s.0) s.1 column) (enumerate_from 0 ss)) e

root-ends : (d : DeckValue) (j : ℕ) (default : ColumnValue) → d.sets ≡ [] → j < length d.columns → ends_of d (root d) j ≡ record { low = (slice_index_or d.columns j default).low; high = (slice_index_or d.columns j default).high }
root-ends d j default e l =
    let b : BoxValue = root d in
    ap (λ (t : Bool). cond t (record { low = (ends_at b j).low; high = Some (pos 0) }) (ends_at b j)) (no_set_there d b j e)
    ∙ at_map (λ (c : ColumnValue). record { low = c.low; high = c.high }) d.columns j default free l

-- ---- the sides of rows

row-sides : (d : DeckValue) (b : BoxValue) (i : ℕ) (default : Row) → i < length d.rows → ends_on d b (length d.columns + i) ≡ (side_end (slice_index_or d.rows i default).low, side_end (slice_index_or d.rows i default).high)
row-sides d b i default l = ends-slack d b i ∙ ap row_ends (get_of d.rows i default l)

-- ---- the vertex

module _ (d : DeckValue) (b : BoxValue) (s : State) (on : IsOnBox d b s) (ended : IsNext s Ended) where
  abbrev p : PointValue
  p = vertex s

  abbrev Q : Rational
  Q = whole p.den

  abbrev thousand : Rational
  thousand = whole (pos 1000)

  abbrev n : ℕ
  n = length d.columns

  den_above : pos 1 ≤ℤ p.den
  den_above = let h = denominator_positive (natural_values s) in omega (arith, ints)

  Q_above : IsPositive Q
  Q_above = whole-positive p.den (let h = den_above in omega (arith, ints))

  Q_not_below : IsNonNegative Q
  Q_not_below = let h = Q_above in omega (arith, ints)

  thousandth_not_below : IsNonNegative thousandth
  thousandth_not_below =
      let h : IsPositive thousandth = factor-above thousand thousandth (whole-positive (pos 1000) (omega (arith, ints))) (subst IsPositive (sym thousand-times) (whole-positive (pos 1) (omega (arith, ints)))) in
      omega (arith, ints)

  inside : (j : ℕ) → j < width s.frame → IsInside (lp.state_ends_of s j) (value_of s j)
  inside j l = go (at_of s j) refl
    where
      not_basic : (a : At) → at_of s j ≡ a → a ≢ Basic → IsInside (lp.state_ends_of s j) (value_of s j)
      not_basic a is nonbasic = nonbasic-inside s j (on.feasible j l) a is nonbasic (on.board.values.nonbasic j l (λ e. nonbasic (sym is ∙ e)) ∙ ap (λ (x : At). number_of_end (end_at x (lp.state_ends_of s j))) is)

      go : (a : At) → at_of s j ≡ a → IsInside (lp.state_ends_of s j) (value_of s j)
      go Basic is = let f = on.board.basis.found j l is in subst (λ (x : ℕ). IsInside (lp.state_ends_of s x) (value_of s x)) f.2 (basic-inside s f.0 (λ side. ended f.0 side f.1))
      go Lower is = not_basic Lower is (λ e. cc)
      go Upper is = not_basic Upper is (λ e. cc)
      go Zero is = not_basic Zero is (λ e. cc)

  -- ---- columns
  end-is : (l : ℤ) → whole (l *ℤ p.den) ≡ mul Q (whole l)
  end-is l = whole-mul l p.den ∙ by_ring (whole l ∷ Q ∷ []) (var 0 ⊗ var 1) (var 1 ⊗ var 0) refl

  value-is : (j : ℕ) → j < n → whole (pos 1000 *ℤ part p.parts j) ≡ mul Q (value_of s j)
  value-is j l =
      whole-mul (pos 1000) (part p.parts j) ∙ ap (mul thousand) (part-is s on.board.shape j (omega (arith, columns-is d s on.stands)))
      ∙ by_ring (thousand ∷ Q ∷ thousandth ∷ value_of s j ∷ []) (var 0 ⊗ ((var 1 ⊗ var 2) ⊗ var 3)) ((var 0 ⊗ var 2) ⊗ (var 1 ⊗ var 3)) refl
      ∙ ap (λ (x : Rational). mul x (mul Q (value_of s j))) thousand-times
      ∙ by_ring (mul Q (value_of s j) ∷ []) (unit ⊗ var 0) (var 0) refl

  ends-hold : (j : ℕ) → j < n → Between (ends_of d b j).low (ends_of d b j).high p.den (pos 1000 *ℤ part p.parts j)
  ends-hold j l =
      let q : j < width s.frame = omega (arith, width-is d s on.stands) in
      let h : IsInside ((ends_of d b j).low, (ends_of d b j).high) (value_of s j) = subst (λ (x : Option ℤ × Option ℤ). IsInside x (value_of s j)) (on.boxed j q ∙ ends-column d b j l) (inside j q) in
      record {
        above = λ x e. at_most-times (x *ℤ p.den) (pos 1000 *ℤ part p.parts j) Q (whole x) (value_of s j) Q_not_below (end-is x) (value-is j l) (h.low x e);
        below = λ x e. at_most-times (pos 1000 *ℤ part p.parts j) (x *ℤ p.den) Q (value_of s j) (whole x) Q_not_below (value-is j l) (end-is x) (h.high x e);
      }

  -- ---- rows
  abbrev scale : Rational
  scale = mul (mul Q Q) thousandth

  scale_not_below : IsNonNegative scale
  scale_not_below = nonneg-mul (mul Q Q) thousandth (nonneg-mul Q Q Q_not_below Q_not_below) thousandth_not_below

  side-is : (l : ℤ) → whole (l *ℤ (p.den *ℤ p.den)) ≡ mul scale (whole (pos 1000 *ℤ l))
  side-is l =
      whole-mul l (p.den *ℤ p.den) ∙ ap (mul (whole l)) (whole-mul p.den p.den)
      ∙ by_ring (whole l ∷ Q ∷ []) (var 0 ⊗ (var 1 ⊗ var 1)) (unit ⊗ (var 0 ⊗ (var 1 ⊗ var 1))) refl
      ∙ ap (λ (x : Rational). mul x (mul (whole l) (mul Q Q))) (sym thousand-times)
      ∙ by_ring (whole l ∷ Q ∷ thousand ∷ thousandth ∷ []) ((var 2 ⊗ var 3) ⊗ (var 0 ⊗ (var 1 ⊗ var 1))) (((var 1 ⊗ var 1) ⊗ var 3) ⊗ (var 2 ⊗ var 0)) refl
      ∙ ap (mul scale) (sym (whole-mul (pos 1000) l))

  solved : Solves s.frame.rows (width s.frame) (system s) (value_of s)
  solved = (tableau-solutions-law s.frame.rows (width s.frame) (length s.frame.columns) (system s) _ _ (value_of s) on.board.tableau).0 on.board.values.basic

  times-is : (i : ℕ) → i < length d.rows → whole (row_times d p i) ≡ mul scale (value_of s (n + i))
  times-is i l =
      let L : ℤ = linear_sum d i p.parts in
      let e : row_times d p i ≡ p.den *ℤ L = ap (λ (z : ℤ). p.den *ℤ L +ℤ z) (no-squares d (Some i) p.parts on.arcs) ∙ omega (arith, ints) in
      ap whole e ∙ whole-mul p.den L ∙ ap (mul Q) (dot-is s on.board.shape d (coefficient i) (columns-is d s on.stands))
      ∙ by_ring (Q ∷ thousandth ∷ sum_below n (λ j. mul (whole (coefficient i (column_at d j))) (value_of s j)) ∷ []) (var 0 ⊗ ((var 0 ⊗ var 1) ⊗ var 2)) (((var 0 ⊗ var 0) ⊗ var 1) ⊗ var 2) refl
      ∙ ap (mul scale) (sym (slack-value d s on.stands (value_of s) solved i l))

  rows-hold : AllPlaces (RowHolds d p) d.rows
  rows-hold i default l =
      let r : Row = slice_index_or d.rows i default in
      let q : n + i < width s.frame = omega (arith, width-is d s on.stands) in
      let h : IsInside (side_end r.low, side_end r.high) (value_of s (n + i)) = subst (λ (x : Option ℤ × Option ℤ). IsInside x (value_of s (n + i))) (on.boxed (n + i) q ∙ row-sides d b i default l) (inside (n + i) q) in
      record {
        above = λ x e. at_most-times (x *ℤ (p.den *ℤ p.den)) (row_times d p i) scale (whole (pos 1000 *ℤ x)) (value_of s (n + i)) scale_not_below (side-is x) (times-is i l) (h.low (pos 1000 *ℤ x) (ap side_end e));
        below = λ x e. at_most-times (row_times d p i) (x *ℤ (p.den *ℤ p.den)) scale (value_of s (n + i)) (whole (pos 1000 *ℤ x)) scale_not_below (times-is i l) (side-is x) (h.high (pos 1000 *ℤ x) (ap side_end e));
      }

  holds : HoldsOnBox d b p
  holds = record { den = den_above; parts = parts-length s on.board.shape ∙ columns-is d s on.stands; rows = rows-hold; ends = ends-hold }

pub vertex-law : VertexLaw
vertex-law d b s on ended = holds d b s on ended

-- ---- points of the root box

pub continuous-law : ContinuousLaw
continuous-law d p no_sets continuous h = record {
  den = h.den;
  parts = h.parts;
  rows = h.rows;
  ends = λ j default l. subst (λ (x : Ends). Between x.low x.high p.den (pos 1000 *ℤ part p.parts j)) (root-ends d j default no_sets l) (h.ends j l);
  integers = λ j default l e. (let f : Continuous ≡ Integer = sym (continuous j default l) ∙ e in absurd (cc));
  semis = λ j default l threshold e. (let f : Continuous ≡ Semi threshold = sym (continuous j default l) ∙ e in absurd (cc));
  sets = λ j default l. (let f : length d.sets ≡ 0 = ap (λ (ss : List SetValue). length ss) no_sets in absurd (omega arith));
}
