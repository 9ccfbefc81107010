-- What comes next in a state is one thing.
use Rattle.std.proofs.Common.{◌≡◌, ℕ, ◌<◌, arith, ap, sym, subst, refl, inl, inr, Option, Some}
use Rattle.std.specs.Prelude.{ℤ, ◌≤ℤ◌}
use Rattle.um_num.specs.Fractions.{IsBelow}
use Rattle.um_lp.specs.Boards.{IsBoard, AreOrdered}
use Rattle.um_lp.specs.DualSteps.{IsOutsideAt, Leaves, MayEnter, Enters, ComesBefore, ratio, Next, Ended, NoPoint, Pivot, IsNext}
use Rattle.um_lp.specs.States.{State, width, basic_of, state_ends_of, value_of}
use Rattle.um_lp.specs.declared.board.At.{At}
use Rattle.um_lp.specs.declared.board.At.TheVariants.{Lower, Upper, Zero, Basic}
use Rattle.um_lp.proofs.Orders.{below_self, below_each, not_outside_both}
use Rattle.um_lp.proofs.Unique.{same_row}

-- ---- the row that leaves

ends_ordered : (ends : Option ℤ × Option ℤ) (low high : ℤ) → ends.0 ≡ Some low → ends.1 ≡ Some high → AreOrdered ends → low ≤ℤ high
ends_ordered ends low high p q h = h low p high q

-- a column is outside on one side alone
pub one_side : (s : State) (row : ℕ) (a b : At) → AreOrdered (state_ends_of s (basic_of s row)) → IsOutsideAt s row a → IsOutsideAt s row b → a ≡ b
one_side s row Lower Lower o h k = refl
one_side s row Lower Upper o h k = absurd (not_outside_both (value_of s (basic_of s row)) h.0 k.0 (ends_ordered (state_ends_of s (basic_of s row)) h.0 k.0 h.1 k.1 o) h.2 k.2)
one_side s row Upper Lower o h k = absurd (not_outside_both (value_of s (basic_of s row)) k.0 h.0 (ends_ordered (state_ends_of s (basic_of s row)) k.0 h.0 k.1 h.1 o) k.2 h.2)
one_side s row Upper Upper o h k = refl
one_side s row Zero b o h k = absurd h
one_side s row Basic b o h k = absurd h
one_side s row Lower Zero o h k = absurd k
one_side s row Lower Basic o h k = absurd k
one_side s row Upper Zero o h k = absurd k
one_side s row Upper Basic o h k = absurd k

pub one_leaving_row : (s : State) (r q : ℕ) (a b : At) → IsBoard s → Leaves s r a → Leaves s q b → r ≡ q
one_leaving_row s r q a b board h k =
    let x = h.least q b k.within k.outside in
    let y = k.least r a h.within h.outside in
    same_row _ _ _ _ _ _ board.tableau r q h.within k.within (omega arith)

-- where the ends are in order, to one end
pub one_leaving_end : (s : State) (r q : ℕ) (a b : At) → IsBoard s → ((column : ℕ) → column < width s.frame → AreOrdered (state_ends_of s column)) → Leaves s r a → Leaves s q b → a ≡ b
one_leaving_end s r q a b board ordered h k =
    one_side s r a b (ordered (basic_of s r) (board.tableau.in_range r h.within)) h.outside
    (subst (λ (x : ℕ). IsOutsideAt s x b) (sym (one_leaving_row s r q a b board h k)) k.outside)

-- ---- the column that enters

first_of_two : (s : State) (row a b : ℕ) → ComesBefore s row a b → ComesBefore s row b a → a ≡ b
first_of_two s row a b (inl h) (inl k) = absurd (below_each (ratio s row a) (ratio s row b) h k)
first_of_two s row a b (inl h) (inr k) = absurd (below_self (ratio s row a) (subst (λ x. IsBelow (ratio s row a) x) k.0 h))
first_of_two s row a b (inr h) (inl k) = absurd (below_self (ratio s row b) (subst (λ x. IsBelow (ratio s row b) x) h.0 k))
first_of_two s row a b (inr h) (inr k) = omega (arith, h.1, k.1)

pub one_entering_column : (s : State) (row : ℕ) (to : At) (a b : ℕ) → Enters s row to a → Enters s row to b → a ≡ b
one_entering_column s row to a b h k = first_of_two s row a b (h.least b k.within k.may) (k.least a h.within h.may)

-- ---- the next step

module _ (s : State) (board : IsBoard s) (ordered : (column : ℕ) → column < width s.frame → AreOrdered (state_ends_of s column)) where
  -- with no column that may enter there is no pivot
  no_pivot : (r q column : ℕ) (a b : At) → Leaves s r a → ((column : ℕ) → column < width s.frame → ¬ MayEnter s r a column) → Leaves s q b → Enters s q b column → ⊥
  no_pivot r q column a b h none k enters =
      none column enters.within
      (subst (λ (x : ℕ). MayEnter s x a column) (sym (one_leaving_row s r q a b board h k))
      (subst (λ (x : At). MayEnter s q x column) (sym (one_leaving_end s r q a b board ordered h k)) enters.may))

  same_pivot : (r q i j : ℕ) (a b : At) → Leaves s r a → Enters s r a i → Leaves s q b → Enters s q b j → Pivot r i a ≡ Pivot q j b
  same_pivot r q i j a b h hi k kj =
      let rows : r ≡ q = one_leaving_row s r q a b board h k in
      let ends : a ≡ b = one_leaving_end s r q a b board ordered h k in
      let columns : i ≡ j = one_entering_column s r a i j hi (subst (λ (x : ℕ). Enters s x a j) (sym rows) (subst (λ (x : At). Enters s q x j) (sym ends) kj)) in
      cc

-- where the low end of each column is at most its high end, what comes next is one thing
pub one_next : (s : State) (a b : Next) → IsBoard s → ((column : ℕ) → column < width s.frame → AreOrdered (state_ends_of s column)) → IsNext s a → IsNext s b → a ≡ b
one_next s Ended Ended board ordered h k = refl
one_next s Ended (NoPoint row) board ordered h k = absurd (h row k.0 k.1.within k.1.outside)
one_next s Ended (Pivot row column to) board ordered h k = absurd (h row to k.0.within k.0.outside)
one_next s (NoPoint row) Ended board ordered h k = absurd (k row h.0 h.1.within h.1.outside)
one_next s (Pivot row column to) Ended board ordered h k = absurd (k row to h.0.within h.0.outside)
one_next s (NoPoint r) (NoPoint q) board ordered h k = ap NoPoint (one_leaving_row s r q h.0 k.0 board h.1 k.1)
one_next s (NoPoint r) (Pivot q column to) board ordered h k = absurd (no_pivot s board ordered r q column h.0 to h.1 h.2 k.0 k.1)
one_next s (Pivot q column to) (NoPoint r) board ordered h k = absurd (no_pivot s board ordered r q column k.0 to k.1 k.2 h.0 h.1)
one_next s (Pivot r a to) (Pivot q b side) board ordered h k = same_pivot s board ordered r q a b to side h.0 h.1 k.0 k.1
