use Rattle.std.proofs.Common.{◌≡◌, ℕ, ◌<◌, List, length, arith, sym, ◌∙◌, ap, subst}
use Rattle.std.specs.Prelude.{slice_index}
use Rattle.std.proofs.lemmas.List.{with_items_is}
use Rattle.um_laws.specs.Rational.{Rational, add, mul}
use Rattle.um_num.specs.NumberLists.{number_at}
use Rattle.um_num.specs.Sizes.{IsSmall, Fits}
use Rattle.um_num.proofs.TakenSteps.{change_fits}
use Rattle.um_tableau.specs.Rows.{entry_at, AreNextLines}
use Rattle.um_tableau.specs.Sheets.{basic_at, rise_of, risen}
use Rattle.um_tableau.proofs.ValueSteps.{number_read}
use Rattle.um_lines.proofs.Shorts.{never}
use Rattle.um_tableau.proofs.Rises.{rise_read}
use Rattle.um_tableau.proofs.sheet.Sheet.prepare.Goals as goal

pub returns-in_err-rise-clause-narrow : goal.returns-in_err-rise-clause-narrow
returns-in_err-rise-clause-narrow c h =
    let s = c.args.self.now in
    let rise = rise_read s c.args.row c.args.column c.index.result.now c.args.end.now c.in_ok-lack.lack c.index-2.result.now c.get.result c.index-3.result.now c.requires.sheet c.requires.row_in c.index.ensures c.index-2.ensures c.index-3.ensures c.in_ok-lack.ensures.value c.get.ensures in
    never (c.in_err-rise.ensures.taken (subst Fits (sym rise) (change_fits (number_at s.values.items c.args.column) (rise_of s c.args.row c.args.column c.args.end.now) (h.values c.args.column c.requires.column_in) h.entered)))

pub returns-in_err-move_basic-clause-narrow : goal.returns-in_err-move_basic-clause-narrow
returns-in_err-move_basic-clause-narrow c h =
    let s = c.args.self.now in
    let rise = c.in_ok-rise.ensures.value ∙ rise_read s c.args.row c.args.column c.index.result.now c.args.end.now c.in_ok-lack.lack c.index-2.result.now c.get.result c.index-3.result.now c.requires.sheet c.requires.row_in c.index.ensures c.index-2.ensures c.index-3.ensures c.in_ok-lack.ensures.value c.get.ensures in
    let before : (i : ℕ) → i < length c.as_slice-entries.result.now → IsSmall (number_at c.as_slice-2.result.now (slice_index c.as_slice.result.now i))
    = rw (c.as_slice-entries.ensures.value, c.as_slice-2.ensures.value, c.as_slice.ensures.value) (λ i l. h.values (basic_at s i) (c.requires.sheet.basic_in i (omega (arith, c.requires.sheet.basic)))) in
    let after : (i : ℕ) → i < length c.as_slice-entries.result.now → IsSmall (add (number_at c.as_slice-2.result.now (slice_index c.as_slice.result.now i)) (mul (entry_at c.as_slice-entries.result.now i c.args.column) c.in_ok-rise.rise))
    = rw (rise, c.as_slice-entries.ensures.value, c.as_slice-2.ensures.value, c.as_slice.ensures.value) h.moved in
    never (c.in_err-move_basic.ensures.narrow before after)

pub returns-clause-prepared : goal.returns-clause-prepared
returns-clause-prepared c =
    let s = c.args.self.now in
    let rise = c.in_ok-rise.ensures.value ∙ rise_read s c.args.row c.args.column c.index.result.now c.args.end.now c.in_ok-lack.lack c.index-2.result.now c.get.result c.index-3.result.now c.requires.sheet c.requires.row_in c.index.ensures c.index-2.ensures c.index-3.ensures c.in_ok-lack.ensures.value c.get.ensures in
    let column = number_read s.values.items c.args.column c.index-4.result.now (omega (arith, c.requires.sheet.values, c.requires.column_in)) c.index-4.ensures in
    let moved = with_items_is c.args.spare.now.moved c.move_basic.new.out (omega (arith, c.args.spare.now.moved.ok.0)) in
    let are : (i : ℕ) → i < length s.entries.items → number_at c.move_basic.new.out i ≡ risen s c.args.column (rise_of s c.args.row c.args.column c.args.end.now) i
    = rw (← rise, ← c.as_slice-entries.ensures.value, ← c.as_slice-2.ensures.value, ← c.as_slice.ensures.value) c.in_ok-move_basic.ensures.value in
    record {
      entered_is = c.in_ok-entered.ensures.value ∙ ap (λ (x : Rational). add x c.in_ok-rise.rise) column ∙ ap (add (number_at s.values.items c.args.column)) rise;
      moved_are = λ i l. ap (λ (xs : List Rational). number_at xs i) moved ∙ are i l;
      lines_are = subst (λ (rows : List (List Rational)). AreNextLines rows s.reduced c.args.row c.args.column c.next_lines.new.spare.line c.next_lines.new.spare.rows.items c.next_lines.new.spare.reduced) c.as_slice-entries.ensures.value c.in_ok-next_lines.ensures.next;
    }
