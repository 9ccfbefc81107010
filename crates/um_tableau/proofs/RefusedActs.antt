-- An act is refused only where the state before it, or the one to which it leads, is wide.
use Rattle.std.proofs.Common.{◌≡◌, ◌≢◌, ℕ, ◌<◌, ℤ, pos, List, [], ◌∷◌, length, slice_index_or, arith, sym, ap, ◌∙◌, subst, refl, inl, inr, Result, Ok, Err, IfErr, Option, ◌||◌, cond}
use Rattle.std.specs.Result.{IsOk}
use Rattle.std.proofs.lemmas.Bool.{cases_Bool}
use Rattle.std.proofs.lemmas.List.Elements.{All-get_or}
use Rattle.um_laws.proofs.Ring.{var, unit, ◌⊕◌, ◌⊗◌, opp}
use Rattle.um_laws.proofs.RationalField.{mul_inverse, num_of_zero}
use Rattle.um_laws.specs.Rational.{Rational, whole, add, mul, neg, inverse}
use Rattle.um_num.specs.declared.exact.Wide.{Wide}
use Rattle.um_lp.specs.Basis.{pivot_line, pivot_entry}
use Rattle.um_lp.specs.Boards.{IsFinite, IsPivot, IsRebox, StandsAt}
use Rattle.um_num.specs.Numbers.{IsOutOfRange}
use Rattle.um_lp.specs.Refusals.{IsRefusedAct}
use Rattle.um_num.specs.NumberLists.{number_at}
use Rattle.um_lp.specs.States.{State, Frame, width, at_of, state_ends_of, basic_of, entry_of, value_of, end_at, number_of_end}
use Rattle.um_lp.specs.WideStates.{is_wide, numbers_of, AreNarrow}
use Rattle.um_lp.specs.declared.board.At.{At}
use Rattle.um_lp.specs.declared.board.At.TheVariants.{Basic}
use Rattle.um_laws.proofs.RationalEquations.{by_ring}
use Rattle.um_lp.proofs.Acts.{HasPivotedParts, HasReboxedParts}
use Rattle.um_lp.proofs.NextStates.{after_pivot, pivoted_parts, pivot_leads, after_rebox, reboxed_parts, rebox_leads, stands_once}
use Rattle.um_lp.proofs.RefusedReads.{not_wide}
use Rattle.um_lp.proofs.Rows.{same_or_not, by_row}
use Rattle.um_num.specs.Sizes.{IsSmall}
use Rattle.um_lp.proofs.NarrowNumbers.{neither}
use Rattle.um_lp.proofs.NarrowParts.{state_rows, state_reduced, state_value}
use Rattle.um_tableau.specs.NarrowActs.{IsNarrowPivot, IsNarrowMove}
use Rattle.um_tableau.specs.Rows.{row_at, entry_at}
use Rattle.um_lines.specs.Lines.{HasMinusOne}
use Rattle.um_tableau.specs.Sheets.{state_of, basic_at, ends_at, standing_at, rise_of, risen}
use Rattle.um_tableau.specs.Stands.{Stands, board_of}
use Rattle.um_tableau.specs.declared.sheet.Sheet.{Sheet}
use Rattle.um_lines.proofs.Shorts.{never}

-- the leaving column rises to its end
reaches : (v e end : Rational) → e ≢ whole (pos 0) → add v (mul e (mul (add end (neg v)) (inverse e))) ≡ end
reaches v e end ne =
    by_ring (v ∷ e ∷ end ∷ inverse e ∷ []) (var 0 ⊕ var 1 ⊗ ((var 2 ⊕ opp (var 0)) ⊗ var 3)) (var 0 ⊕ (var 1 ⊗ var 3) ⊗ (var 2 ⊕ opp (var 0))) refl
    ∙ ap (λ (x : Rational). add v (mul x (add end (neg v)))) (mul_inverse e (λ z. ne (num_of_zero e z)))
    ∙ by_ring (v ∷ end ∷ []) (var 0 ⊕ unit ⊗ (var 1 ⊕ opp (var 0))) (var 1) refl

own_line : (e : ℕ → ℕ → Rational) (row column j : ℕ) → pivot_entry e row column row j ≡ pivot_line e row column j
own_line e row column j = by_row (λ b. cond b (pivot_line e row column j) (add (e row j) (mul (e row column) (pivot_line e row column j))) ≡ pivot_line e row column j) row row (λ same. refl) (λ other. absurd (other refl))

-- a row of a tableau has minus one at its own basic column
pub own_minus_one : (f : Frame) (s : Sheet) (row : ℕ) → Stands (state_of f s) → row < f.rows → HasMinusOne (row_at s.entries.items row)
own_minus_one f s row h l = (
  basic_at s row,
  let place = h.tableau.in_range row l in let long = h.long row (omega (arith, h.entries)) in omega (arith, place, long),
  h.tableau.own row l,
)

narrow_pivot : (f : Frame) (s : Sheet) (row column : ℕ) (to : At) → Stands (state_of f s) → row < f.rows → column < width f → at_of (state_of f s) column ≢ Basic → entry_of (state_of f s) row column ≢ whole (pos 0)
    → AreNarrow (numbers_of (state_of f s)) → AreNarrow (numbers_of (after_pivot (state_of f s) row column to)) → IsNarrowPivot s row column (number_of_end (end_at to (ends_at s (basic_at s row))))
narrow_pivot f s row column to h lr lk free ne hs ht =
    let S : State = state_of f s in
    let T : State = after_pivot S row column to in
    let p : HasPivotedParts row column to S T = pivoted_parts S row column to (board_of S h) lr lk free in
    let end : Rational = number_of_end (end_at to (ends_at s (basic_at s row))) in
    let value : (j : ℕ) → j < width f → IsSmall (value_of T j) = λ j l. state_value T j (omega (arith, p.shape.values)) ht in
    let lt : row < length T.entries = omega (arith, p.shape.entries) in
    record {
      values = λ j l. state_value S j (omega (arith, h.values, h.reduced)) hs;
      rows = λ i l. state_rows S i l hs;
      reduced = state_reduced S hs;
      end_small = subst IsSmall p.values.leaving (value (basic_at s row) (h.tableau.in_range row lr));
      entered = subst IsSmall p.values.entering (value column lk);
      moved = λ i l.
          let li : i < f.rows = omega (arith, h.entries) in
          elim (same_or_not i row) [
            | inl same ↦ subst (λ (k : ℕ). IsSmall (risen s column (rise_of s row column end) k)) (sym same)
                (subst IsSmall (p.values.leaving ∙ sym (reaches (number_at s.values.items (basic_at s row)) (entry_at s.entries.items row column) end ne)) (value (basic_at s row) (h.tableau.in_range row lr)))
            | inr other ↦ subst IsSmall (p.values.rows i li other) (value (basic_at s i) (h.tableau.in_range i li))
          ];
      line = slice_index_or T.entries row [];
      long = All-get_or (λ (r : List Rational). length r ≡ width f) T.entries row [] lt p.shape.long ∙ sym h.reduced;
      line_is = λ j l. p.entries row j lr (omega (arith, h.reduced)) ∙ own_line (entry_of S) row column j;
      line_narrow = state_rows T row lt ht;
    }

pub pivot_refused : (f : Frame) (s : Sheet) (row column : ℕ) (to : At) (r : Result (Unit {0}) Wide) → Stands (state_of f s) → row < f.rows → column < width f → at_of (state_of f s) column ≢ Basic → entry_of (state_of f s) row column ≢ whole (pos 0)
    → IsFinite to (state_ends_of (state_of f s) (basic_of (state_of f s) row))
    → IfErr r IsOutOfRange → (IsNarrowPivot s row column (number_of_end (end_at to (ends_at s (basic_at s row)))) → IsOk r) → IfErr r (IsRefusedAct (state_of f s) (IsPivot row column to (state_of f s)))
pivot_refused f s row column to (Ok x) h lr lk free ne finite out narrow = tt
pivot_refused f s row column to (Err w) h lr lk free ne finite out narrow =
    let S : State = state_of f s in
    let T : State = after_pivot S row column to in
    record {
      operation = out;
      next = T;
      leads = pivot_leads S row column to (board_of S h) lr lk free ne finite;
      wide = elim (cases_Bool (is_wide S || is_wide T)) [
        | inl yes' ↦ yes'
        | inr no' ↦ let none = neither _ _ no' in never (narrow (narrow_pivot f s row column to h lr lk free ne (not_wide S none.0) (not_wide T none.1)))
      ];
    }

narrow_move : (f : Frame) (s : Sheet) (column : ℕ) (given : Option ℤ × Option ℤ) → Stands (state_of f s) → column < width f → AreNarrow (numbers_of (state_of f s)) → AreNarrow (numbers_of (after_rebox (state_of f s) column given))
    → standing_at s column ≢ Basic → (at : At) → StandsAt (standing_at s column) at (number_at s.reduced column) given → IsNarrowMove s column (number_of_end (end_at at given))
narrow_move f s column given h lk hs ht free at stands =
    let S : State = state_of f s in
    let T : State = after_rebox S column given in
    let p : HasReboxedParts column given S T = reboxed_parts S column given (board_of S h) lk in
    let m = p.moved free in
    let same : at ≡ at_of T column = stands_once (standing_at s column) at (at_of T column) (number_at s.reduced column) given free stands p.stands in
    let value : (j : ℕ) → j < width f → IsSmall (value_of T j) = λ j l. state_value T j (omega (arith, p.long)) ht in
    subst (λ (a : At). IsNarrowMove s column (number_of_end (end_at a given))) (sym same)
    (record {
      values = λ j l. state_value S j (omega (arith, h.values, h.reduced)) hs;
      end_small = subst IsSmall m.own (value column lk);
      moved = λ i l. let li : i < f.rows = omega (arith, h.entries) in subst IsSmall (m.rows i li) (value (basic_at s i) (h.tableau.in_range i li));
    })

pub rebox_refused : (f : Frame) (s : Sheet) (column : ℕ) (given : Option ℤ × Option ℤ) (r : Result (Unit {0}) Wide) → Stands (state_of f s) → column < width f → IfErr r IsOutOfRange
    → ((standing_at s column ≢ Basic → (at : At) → StandsAt (standing_at s column) at (number_at s.reduced column) given → IsNarrowMove s column (number_of_end (end_at at given))) → IsOk r)
    → IfErr r (IsRefusedAct (state_of f s) (IsRebox column given (state_of f s)))
rebox_refused f s column given (Ok x) h lk out narrow = tt
rebox_refused f s column given (Err w) h lk out narrow =
    let S : State = state_of f s in
    let T : State = after_rebox S column given in
    record {
      operation = out;
      next = T;
      leads = rebox_leads S column given (board_of S h) lk;
      wide = elim (cases_Bool (is_wide S || is_wide T)) [
        | inl yes' ↦ yes'
        | inr no' ↦ let none = neither _ _ no' in never (narrow (narrow_move f s column given h lk (not_wide S none.0) (not_wide T none.1)))
      ];
    }
