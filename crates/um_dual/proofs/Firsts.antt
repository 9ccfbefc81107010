-- What the searches for the row that leaves and for the column that enters have found: one row or column more, and all of them.
use Rattle.std.proofs.Common.{◌≡◌, ℕ, ◌+◌, ◌≤◌, arith, sym, ◌∙◌, subst, refl, inl, inr, ◌⊎◌, Option, Some, None, Ordering, Less, Equal, Greater, below_more}
use Rattle.std.specs.Ordering.{MatchOrdering}
use Rattle.um_laws.specs.Rational.{Rational}
use Rattle.um_num.specs.Fractions.{IsBelow, order}
use Rattle.um_num.proofs.Order.{ordered}
use Rattle.um_lp.specs.States.{State, basic_of}
use Rattle.um_lp.specs.DualSteps.{IsOutsideAt, MayEnter, ComesBefore, ratio}
use Rattle.um_lp.specs.declared.board.At.{At}
use Rattle.um_dual.specs.Choices.{IsWithinEnds, IsThereBefore, LeavesBelow, IsEarlier, IsFirstBelow, EntersBelow}
use Rattle.um_dual.specs.declared.leaving_row.LeavingRow.{LeavingRow}
use Rattle.um_dual.specs.declared.entering_column.EnteringColumn.{EnteringColumn}
use Rattle.um_lp.proofs.Orders.{below_trans}

-- ---- the row that leaves
-- the next row is within its ends, or a column of less index is there
pub leaves_same : (s : State) (n : ℕ) (first : Option LeavingRow) → LeavesBelow s n first → IsWithinEnds s n ⊎ IsThereBefore first (basic_of s n) → LeavesBelow s (n + 1) first
leaves_same s n None h (inl w) = below_more (λ row. IsWithinEnds s row) n h w
leaves_same s n None h (inr b) = absurd b
leaves_same s n (Some l) h here = record {
  below = let b = h.below in omega arith;
  column = h.column;
  outside = h.outside;
  least = λ other side below o. below_more (λ other. (side : At) → IsOutsideAt s other side → l.column ≤ basic_of s other) n (λ other below side o. h.least other side below o)
      (λ side o. elim here [ inl w ↦ absurd (w side o) | inr b ↦ b ]) other below side o;
}

-- ---- the column that enters
below_or_same : (x y : Rational) → ¬ IsBelow y x → IsBelow x y ⊎ (x ≡ y)
below_or_same x y refused = by (order x y) (ordered x y)
  where
    by : (r : Ordering) → MatchOrdering r (IsBelow x y) (x ≡ y) (IsBelow y x) → IsBelow x y ⊎ (x ≡ y)
    by Less h = inl h
    by Equal h = inr h
    by Greater h = absurd (refused h)

-- the next column may not enter
pub enters_same : (s : State) (row : ℕ) (to : At) (n : ℕ) (first : Option EnteringColumn) → EntersBelow s row to n first → ¬ MayEnter s row to n → EntersBelow s row to (n + 1) first
enters_same s row to n None h refused = below_more (λ column. ¬ MayEnter s row to column) n h refused
enters_same s row to n (Some e) h refused = record {
  below = let b = h.below in omega arith;
  may = h.may;
  value = h.value;
  least = below_more (λ other. MayEnter s row to other → ComesBefore s row e.column other) n h.least (λ m. absurd (refused m));
}

-- what comes before a column that comes before another
before_then : (s : State) (row a b c : ℕ) → IsBelow (ratio s row a) (ratio s row b) → ComesBefore s row b c → ComesBefore s row a c
before_then s row a b c h (inl q) = inl (below_trans (ratio s row a) (ratio s row b) (ratio s row c) h q)
before_then s row a b c h (inr (e, q)) = inl (subst (λ (z : Rational). IsBelow (ratio s row a) z) e h)

-- the next column may enter
pub enters_next : (s : State) (row : ℕ) (to : At) (n : ℕ) (r : Rational) (first : Option EnteringColumn) (e : EnteringColumn) → EntersBelow s row to n first → MayEnter s row to n → r ≡ ratio s row n
    → IsEarlier first (record { column = n; ratio = r }) e → IsFirstBelow s row to (n + 1) e
enters_next s row to n r None e h m v is = subst (λ (x : EnteringColumn). IsFirstBelow s row to (n + 1) x) (sym is) (record {
  below = omega arith;
  may = m;
  value = v;
  least = below_more (λ other. MayEnter s row to other → ComesBefore s row n other) n (λ other below may. absurd (h other below may)) (λ may. inr (refl, omega arith));
})
enters_next s row to n r (Some least) e h m v (inl (b, is)) = subst (λ (x : EnteringColumn). IsFirstBelow s row to (n + 1) x) (sym is) (record {
  below = omega arith;
  may = m;
  value = v;
  least = below_more (λ other. MayEnter s row to other → ComesBefore s row n other) n
      (λ other below may. before_then s row n least.column other (subst (λ (z : Rational). IsBelow z (ratio s row least.column)) v (subst (λ (z : Rational). IsBelow r z) h.value b)) (h.least other below may))
      (λ may. inr (refl, omega arith));
})
enters_next s row to n r (Some least) e h m v (inr (refused, is)) = subst (λ (x : EnteringColumn). IsFirstBelow s row to (n + 1) x) (sym is) (record {
  below = let b = h.below in omega arith;
  may = h.may;
  value = h.value;
  least = below_more (λ other. MayEnter s row to other → ComesBefore s row least.column other) n h.least (λ may. last (below_or_same least.ratio r refused));
})
  where
    last : IsBelow least.ratio r ⊎ (least.ratio ≡ r) → ComesBefore s row least.column n
    last (inl q) = inl (subst (λ (z : Rational). IsBelow z (ratio s row n)) h.value (subst (λ (z : Rational). IsBelow least.ratio z) v q))
    last (inr q) = inr (sym h.value ∙ q ∙ v, let b = h.below in omega arith)
