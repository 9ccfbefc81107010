use Rattle.std.proofs.Common.{ℕ, List, slice_set, arith, ◌∙◌, ap, sym, refl}
use Rattle.std.proofs.lemmas.List.{get_or_default, with_items_is}
use Rattle.um_laws.specs.Rational.{Rational, add, mul}
use Rattle.um_lp.specs.Basis.{pivot_line, pivot_entry}
use Rattle.um_num.specs.NumberLists.{number_at}
use Rattle.um_tableau.specs.Rows.{entry_at}
use Rattle.um_lp.specs.declared.board.At.{At}
use Rattle.um_lp.specs.declared.board.At.TheVariants.{Basic}
use Rattle.um_tableau.proofs.Exchanges.{pivoted_is}
use Rattle.um_tableau.proofs.sheet.Sheet.exchange.Goals as goal

pub returns-clause-pivoted : goal.returns-clause-pivoted
returns-clause-pivoted c =
    let s = c.args.self.now in
    let entries = with_items_is s.entries c.take_lines.new.entries (omega (arith, s.entries.ok.0)) in
    let values = with_items_is s.values c.set_values.new.values (omega (arith, s.values.ok.0)) in
    let basic = with_items_is s.basic c.set_basic.new.basic (omega (arith, s.basic.ok.0)) in
    let at = with_items_is s.at c.set_statuses.new.at (omega (arith, s.at.ok.0)) in
    let leaving = get_or_default s.basic.items c.args.row 0 c.index.result.now (omega (arith, c.requires.sheet.basic)) in
    pivoted_is c.args.self.now _ c.args.row c.args.column c.args.to c.args.end.now c.args.entered.now c.args.spare.now c.take_lines.new.entries c.set_values.new.values c.requires.sheet c.requires.prepared
    entries values (omega arith) c.take_lines.ensures.reduced_long (omega arith) c.take_lines.ensures.long
    (basic ∙ c.set_basic.ensures ∙ ap (λ (xs : List ℕ). slice_set xs c.args.row c.args.column) c.as_mut_slice-4.ensures.value)
    (at ∙ c.set_statuses.ensures ∙ ap (λ (xs : List At). slice_set (slice_set xs c.index.result.now c.args.to) c.args.column Basic) c.as_mut_slice-3.ensures.value ∙ ap (λ (place : ℕ). slice_set (slice_set s.at.items place c.args.to) c.args.column Basic) (c.index.ensures ∙ sym leaving))
    refl
    refl
    (λ i j li lj. c.take_lines.ensures.entries i j (omega arith) lj ∙ ap (λ (rows : List (List Rational)). pivot_entry (entry_at rows) c.args.row c.args.column i j) c.as_mut_slice-2.ensures.value)
    (λ j l. c.take_lines.ensures.reduced j l ∙ ap (λ (rows : List (List Rational)). add (number_at s.reduced j) (mul (number_at s.reduced c.args.column) (pivot_line (entry_at rows) c.args.row c.args.column j))) c.as_mut_slice-2.ensures.value)
    (rw (← c.as_slice.ensures.value, ← c.as_slice-2.ensures.value, ← c.as_mut_slice.ensures.value) c.set_values.ensures)
