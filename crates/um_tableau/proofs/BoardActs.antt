-- What the acts on a sheet mean for the board.
use Rattle.std.proofs.Common.{◌≡◌, ◌≢◌, ℕ, ◌<◌, ◌^◌, ℤ, ◌*ℤ◌, List, [], length, slice_set, slice_index_or, arith, sym, ◌∙◌, ap, subst, refl, Result, Ok, Err, OnOk, OnErr, Option, None, inl, inr}
use Rattle.std.specs.Prelude.{pos}
use Rattle.std.specs.Option.{ForSome}
use Rattle.std.proofs.lemmas.List.{length-set, get_or-set_same, get_or-set_other}
use Rattle.std.proofs.lemmas.List.Elements.{All-from_get_or}
use Rattle.um_laws.specs.Rational.{Rational, whole, neg, Is}
use Rattle.um_laws.proofs.RationalField.{is_whole}
use Rattle.um_laws.proofs.Ring.{nought, unit, opp}
use Rattle.um_num.specs.Numbers.{IsInRange}
use Rattle.um_num.proofs.Parts.{zero_parts}
use Rattle.std.proofs.lemmas.Int.{ints}
use Rattle.um_lp.specs.Boards.{IsPivot, IsRebox, IsFinite}
use Rattle.um_lp.specs.States.{Frame, width, at_of, state_ends_of, entry_of, basic_of, end_at, number_of_end}
use Rattle.um_lp.specs.declared.board.At.{At}
use Rattle.um_lp.specs.declared.board.At.TheVariants.{Basic}
use Rattle.um_laws.proofs.RationalEquations.{by_ring}
use Rattle.um_lp.proofs.Acts.{IsBoard-pivot, IsBoard-rebox}
use Rattle.um_lp.proofs.Rows.{same_or_not}
use Rattle.um_lp.proofs.Starts.{HasSlackBasis}
use Rattle.um_tableau.specs.Rows.{AreSpare, AreDistinct}
use Rattle.um_tableau.specs.Sheets.{state_of, IsSheet, IsSpare, IsPivoted, IsReboxed, AreEndsInRange, basic_at, ends_at}
use Rattle.um_tableau.specs.Stands.{Stands, board_of}
use Rattle.um_tableau.proofs.KeptBoards.{stands_of}
use Rattle.um_tableau.specs.declared.sheet.Sheet.{Sheet}
use Rattle.um_tableau.specs.declared.sheet.Spare.{Spare}
use Rattle.um_tableau.proofs.Copies.{room_of}

-- ---- the sheet of a board
-- minus one is not 0
minus_one : neg (whole (pos 1)) ≢ whole (pos 0)
minus_one e =
    let one : whole (pos 1) ≡ whole (pos 0) =
    by_ring [] unit (opp (opp unit)) refl ∙ ap neg e ∙ by_ring [] (opp nought) nought refl in
    let num : (whole (pos 1)).num ≡ pos 0 = zero_parts (whole (pos 1)) one in
    let is : Is (whole (pos 1)) (pos 1) 1 = is_whole (pos 1) in
    let up : 0 < (whole (pos 1)).den = (whole (pos 1)).positive in
    let none : pos 0 *ℤ pos 1 ≡ pos 1 *ℤ pos (whole (pos 1)).den = ap (λ (z : ℤ). z *ℤ pos 1) (sym num) ∙ is in
    omega (arith, ints)

-- a basic column is basic in one row
basic_distinct : (f : Frame) (s : Sheet) → Stands (state_of f s) → AreDistinct s.basic.items
basic_distinct f s h i k li lk d e =
    let ri : i < f.rows = omega (arith, h.basic) in
    let rk : k < f.rows = omega (arith, h.basic) in
    minus_one (sym (h.tableau.own i ri) ∙ ap (entry_of (state_of f s) i) e ∙ h.tableau.others i k ri rk d)

pub sheet_of : (f : Frame) (s : Sheet) → width f < 2 ^ 32 → Stands (state_of f s) → AreEndsInRange s.ends.items → IsSheet s
sheet_of f s size h ends_in =
    record {
      width = omega (arith, h.reduced);
      basic = h.basic ∙ sym h.entries;
      basic_in = λ i l. let b : basic_at s i < width f = h.tableau.in_range i (omega (arith, h.basic)) in omega (arith, h.reduced);
      distinct = basic_distinct f s h;
      at = h.at ∙ sym h.reduced;
      named = λ row l. h.named row (omega (arith, h.entries));
      ends = h.ends ∙ sym h.reduced;
      ends_in = ends_in;
      long = λ i l. h.long i l ∙ sym h.reduced;
      values = h.values ∙ sym h.reduced;
    }

-- ---- pivots
pub pivot_is : (f : Frame) (s t : Sheet) (row column : ℕ) (to : At) → Stands (state_of f s) → row < f.rows → column < width f → at_of (state_of f s) column ≢ Basic → entry_of (state_of f s) row column ≢ whole (pos 0)
    → IsFinite to (state_ends_of (state_of f s) (basic_of (state_of f s) row))
    → IsPivoted s t row column to (number_of_end (end_at to (ends_at s (basic_at s row)))) → IsPivot row column to (state_of f s) (state_of f t)
pivot_is f s t row column to h lr lk free ne finite p =
    IsBoard-pivot row column to (state_of f s) (state_of f t) (board_of (state_of f s) h) lr lk free ne finite
    (record {
      same = record { frame = refl; placed = refl; costs = p.costs };
      shape = record {
        basic = ap length p.basic ∙ length-set s.basic.items row column ∙ h.basic;
        at = ap length p.at ∙ length-set (slice_set s.at.items (basic_at s row) to) column Basic ∙ length-set s.at.items (basic_at s row) to ∙ h.at;
        ends = ap length p.ends ∙ h.ends;
        entries = p.height ∙ h.entries;
        long = All-from_get_or (λ (r : List Rational). length r ≡ width f) t.entries.items [] (λ i l. p.long i l ∙ h.reduced);
        reduced = p.width ∙ h.reduced;
        values = p.values_long ∙ h.values;
      };
      basic = p.basic;
      at = p.at;
      ends = p.ends;
      entries = λ i j li lj. p.entries i j (omega (arith, h.entries)) (omega (arith, h.reduced));
      reduced = λ j l. p.reduced j (omega (arith, h.reduced));
      values = record {
        entering = p.entering;
        leaving = p.leaving;
        rows = λ i l d. p.rows i (omega (arith, h.entries)) d;
        rest = λ j l d apart. p.rest j d (λ i li. apart i (omega (arith, h.entries)));
      };
    })

-- ---- new ends
pub rebox_is : (f : Frame) (s t : Sheet) (column : ℕ) (given : Option ℤ × Option ℤ) → Stands (state_of f s) → column < width f → IsReboxed s t column given → IsRebox column given (state_of f s) (state_of f t)
rebox_is f s t column given h lk p =
    IsBoard-rebox column given (state_of f s) (state_of f t) (board_of (state_of f s) h) lk
    (record {
      same = record { frame = refl; placed = refl; costs = p.costs };
      long = p.values_long ∙ h.values;
      basic = p.basic;
      entries = p.entries;
      reduced = p.reduced;
      ends = p.ends;
      at = p.at;
      stands = p.stands;
      kept = λ e j l. ap (λ (xs : List Rational). slice_index_or xs j (whole (pos 0))) (p.kept e);
      moved = λ d. let m = p.moved d in record {
        own = m.own;
        rows = λ i l. m.rows i (omega (arith, h.entries));
        rest = λ j l e apart. m.rest j e (λ i li. apart i (omega (arith, h.entries)));
      };
    })

-- ---- what the board keeps
-- by the result of an act
pub by_result : {T E P Q G : Type 0} (r : Result T E) → OnOk r P → OnErr r Q → (P → G) → (Q → G) → G
by_result (Ok x) h k f g = f h
by_result (Err e) h k f g = g k

-- ends in range stay so where one pair of them is replaced
pub ends_set : (ends : List (Option ℤ × Option ℤ)) (column : ℕ) (given : Option ℤ × Option ℤ) → AreEndsInRange ends → ForSome given.0 IsInRange → ForSome given.1 IsInRange → column < length ends → AreEndsInRange (slice_set ends column given)
ends_set ends column given h low high l j p =
    elim (same_or_not j column) [
      | inl same ↦ rw (same, get_or-set_same ends column given (None, None) l) (low, high)
      | inr other ↦ rw (get_or-set_other ends column j given (None, None) other) (h j (let len : length (slice_set ends column given) ≡ length ends = length-set ends column given in omega arith))
    ]

-- room for one sheet is room for another of its size
pub spare_of : (s t : Sheet) (spare : Spare) → IsSpare s spare → length t.entries.items ≡ length s.entries.items → length t.reduced ≡ length s.reduced → IsSpare t spare
spare_of s t spare h height wide =
    record {
      lines = subst (λ (n : ℕ). AreSpare n (length t.reduced) spare.lines) (sym height) (subst (λ (n : ℕ). AreSpare (length s.entries.items) n spare.lines) (sym wide) h.lines);
      moved = h.moved ∙ sym height;
    }

-- what the board keeps, by its sheet and its room
pub record Keeps (f : Frame) (t : Sheet) (spare : Spare) : Type 0 where
  pub stands : Stands (state_of f t)
  pub ends_in : AreEndsInRange t.ends.items
  pub room : IsSpare t spare

-- where nothing changed but the room
pub keeps_still : (f : Frame) (s t : Sheet) (spare : Spare) → Stands (state_of f s) → AreEndsInRange s.ends.items → IsSpare s spare → t ≡ s → Keeps f t spare
keeps_still f s t spare h e r q = subst (λ (u : Sheet). Keeps f u spare) (sym q) (record { stands = h; ends_in = e; room = r })

pub keeps_pivot : (f : Frame) (s t : Sheet) (spare : Spare) (row column : ℕ) (to : At) (end : Rational) → AreEndsInRange s.ends.items → IsSpare s spare
    → IsPivot row column to (state_of f s) (state_of f t) → IsPivoted s t row column to end → Keeps f t spare
keeps_pivot f s t spare row column to end e r p q =
    record {
      stands = stands_of (state_of f t) p.board;
      ends_in = subst (λ (ends : List (Option ℤ × Option ℤ)). AreEndsInRange ends) (sym q.ends) e;
      room = spare_of s t spare r q.height q.width;
    }

pub keeps_rebox : (f : Frame) (s t : Sheet) (spare : Spare) (column : ℕ) (given : Option ℤ × Option ℤ) → AreEndsInRange s.ends.items → IsSpare s spare → column < length s.ends.items → ForSome given.0 IsInRange → ForSome given.1 IsInRange
    → IsRebox column given (state_of f s) (state_of f t) → IsReboxed s t column given → Keeps f t spare
keeps_rebox f s t spare column given e r l low high p q =
    record {
      stands = stands_of (state_of f t) p.board;
      ends_in = subst (λ (ends : List (Option ℤ × Option ℤ)). AreEndsInRange ends) (sym q.ends) (ends_set s.ends.items column given e low high l);
      room = spare_of s t spare r (ap length q.entries) (ap length q.reduced);
    }

-- ---- the making
-- room for a board of the slack basis
pub first_room : (f : Frame) (s : Sheet) (spare : Spare) → HasSlackBasis (state_of f s) → AreSpare f.rows (width f) spare.lines → length spare.moved.items ≡ f.rows → IsSpare s spare
first_room f s spare h lines moved = room_of f s spare h.shape.entries h.shape.reduced lines moved
