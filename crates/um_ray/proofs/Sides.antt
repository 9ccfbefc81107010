-- Where the values of the start problem lie: not below 0 where the deck has a low end, and not above 0 where it has a high end.
use Rattle.std.proofs.Common.{◌≡◌, ◌≢◌, ℕ, ◌<◌, arith, ap, sym, subst, ◌∙◌, refl, [], ◌∷◌, Option, None, Some}
use Rattle.std.specs.Prelude.{ℤ, pos, ◌≤ℤ◌, IsSome}
use Rattle.std.proofs.lemmas.Int.{ints}
use Rattle.um_laws.specs.Rational.{Rational, whole, neg}
use Rattle.um_laws.proofs.RationalOrder.{IsNonNegative}
use Rattle.um_laws.proofs.RationalEquations.{by_ring}
use Rattle.um_laws.proofs.Ring.{var, nought, ◌⊕◌, opp}
use Rattle.um_model.specs.Values.{DeckValue}
use Rattle.um_model.specs.Boxes.{root}
use Rattle.um_lp.specs.States.{State, width, at_of, state_ends_of, value_of, basic_of, end_at, number_of_end}
use Rattle.um_lp.specs.DualSteps.{IsNext, Ended, IsOutsideAt}
use Rattle.um_lp.specs.declared.board.At.{At}
use Rattle.um_lp.specs.declared.board.At.TheVariants.{Lower, Upper, Zero, Basic}
use Rattle.um_lp.proofs.Orders.{whole_num}
use Rattle.um_dual.proofs.Signs.{nonneg_zero}
use Rattle.um_duality.specs.Laws.{IsOnBox}
use Rattle.um_duality.specs.Boxed.{ends_on}
use Rattle.um_duality.proofs.DeckBoards.{width-is}
use Rattle.um_duality.proofs.PricedBoards.{some_of}
use Rattle.um_duality.proofs.Wholes.{not_below}
use Rattle.um_ray.specs.Directions.{directions}
use Rattle.um_ray.proofs.MovingEnds.{AreMoving, moving, stands_on_deck}
use Rattle.um_ray.proofs.Values.{under_nought, minus_nothing}

-- ---- nonbasic columns

-- at the low end a value is at most 0, at the high end at least 0, and else 0
abbrev pub Leans : At → Rational → Type 0
Leans Lower v = IsNonNegative (neg v)
Leans Upper v = IsNonNegative v
Leans Zero v = v ≡ whole (pos 0)
Leans Basic v = v ≡ whole (pos 0)

pub above_nought : (h : ℤ) → pos 0 ≤ℤ h → IsNonNegative (whole h)
above_nought h le = let f = whole_num h in omega (arith, ints)

pub leans : (at : At) (own start : Option ℤ × Option ℤ) (v : Rational) → AreMoving own start → (at ≡ Lower → IsSome start.0) → (at ≡ Upper → IsSome start.1) → v ≡ number_of_end (end_at at start) → Leans at v
leans Lower own start v m low high e = let l = some_of start.0 (low refl) in subst (λ (x : Rational). IsNonNegative (neg x)) (sym (e ∙ ap number_of_end l.1)) (under_nought l.0 (m.low l.0 l.1))
leans Upper own start v m low high e = let h = some_of start.1 (high refl) in subst IsNonNegative (sym (e ∙ ap number_of_end h.1)) (above_nought h.0 (m.high h.0 h.1))
leans Zero own start v m low high e = e
leans Basic own start v m low high e = e

-- ---- all columns

-- a change that no end of the deck stops
pub record IsOpen (own : Option ℤ × Option ℤ) (v : Rational) : Type 0 where
  pub low : IsSome own.0 → IsNonNegative v
  pub high : IsSome own.1 → IsNonNegative (neg v)

same_number : (at : At) (o : Option ℤ) → o ≡ Some (pos 0) → number_of_end o ≡ whole (pos 0)
same_number at o e = ap number_of_end e

none_or : (o : Option ℤ) (x : ℤ) → o ≡ None → o ≡ Some x → ⊥
none_or o x e f = cc

open_at : (at : At) (own start : Option ℤ × Option ℤ) (v : Rational) → AreMoving own start → Leans at v → at ≢ Basic → v ≡ number_of_end (end_at at start) → (at ≡ Zero → start ≡ (None, None)) → IsOpen own v
open_at Lower own start v m leans ne e free = record {
  low = λ h. nonneg_zero v (e ∙ ap number_of_end (m.own_low h));
  high = λ h. leans;
}
open_at Upper own start v m leans ne e free = record {
  low = λ h. leans;
  high = λ h. nonneg_zero (neg v) (minus_nothing v (e ∙ ap number_of_end (m.own_high h)));
}
open_at Zero own start v m leans ne e free = record {
  low = λ h. nonneg_zero v leans;
  high = λ h. nonneg_zero (neg v) (minus_nothing v leans);
}
open_at Basic own start v m leans ne e free = absurd (ne refl)

-- a basic column within its ends
open_basic : (s : State) (row : ℕ) (own : Option ℤ × Option ℤ) → AreMoving own (state_ends_of s (basic_of s row)) → ((side : At) → ¬ IsOutsideAt s row side) → IsOpen own (value_of s (basic_of s row))
open_basic s row own m none =
    let v : Rational = value_of s (basic_of s row) in
    record {
      low = λ h. subst IsNonNegative (by_ring (v ∷ []) (var 0 ⊕ opp nought) (var 0) refl) (not_below (whole (pos 0)) v (λ b. none Lower (pos 0, m.own_low h, b)));
      high = λ h. subst IsNonNegative (by_ring (v ∷ []) (nought ⊕ opp (var 0)) (opp (var 0)) refl) (not_below v (whole (pos 0)) (λ b. none Upper (pos 0, m.own_high h, b)));
    }

module _ (d : DeckValue) (t : State) (on : IsOnBox (directions d) (root (directions d)) t) where
  abbrev pub own : ℕ → Option ℤ × Option ℤ
  own j = ends_on d (root d) j

  pub moves : (j : ℕ) → j < width t.frame → AreMoving (own j) (state_ends_of t j)
  moves j l =
      subst (λ (e : Option ℤ × Option ℤ). AreMoving (own j) e) (sym (on.boxed j l))
      (moving d j (omega (arith, width-is d t (stands_on_deck d t on.stands))))

  pub nonbasic_leans : (j : ℕ) → j < width t.frame → at_of t j ≢ Basic → Leans (at_of t j) (value_of t j)
  nonbasic_leans j l ne = let f = on.feasible j l in leans (at_of t j) (own j) (state_ends_of t j) (value_of t j) (moves j l) f.lower f.upper (on.board.values.nonbasic j l ne)

  -- where no step is due
  pub open-value : IsNext t Ended → (j : ℕ) → j < width t.frame → IsOpen (own j) (value_of t j)
  open-value ended j l = go (at_of t j) refl
    where
      other : (a : At) → at_of t j ≡ a → a ≢ Basic → IsOpen (own j) (value_of t j)
      other a is nonbasic =
          let f = on.feasible j l in
          let ne : at_of t j ≢ Basic = λ e. nonbasic (sym is ∙ e) in
          open_at (at_of t j) (own j) (state_ends_of t j) (value_of t j) (moves j l) (nonbasic_leans j l ne) ne (on.board.values.nonbasic j l ne) f.free

      go : (a : At) → at_of t j ≡ a → IsOpen (own j) (value_of t j)
      go Basic is =
          let f = on.board.basis.found j l is in
          subst (λ (x : ℕ). IsOpen (own x) (value_of t x)) f.2
          (open_basic t f.0 (own (basic_of t f.0)) (subst (λ (x : ℕ). AreMoving (own x) (state_ends_of t x)) (sym f.2) (moves j l)) (λ side. ended f.0 side f.1))
      go Lower is = other Lower is (λ e. cc)
      go Upper is = other Upper is (λ e. cc)
      go Zero is = other Zero is (λ e. cc)
