use Rattle.std.proofs.Common.{◌≡◌, ◌+◌, FitsSigned, w64, rules, List, ◌++◌, drop, filter_map, ℤ, sym, ap, subst, ◌∙◌}
use Rattle.std.specs.List.{enumerate_from}
use Rattle.std.proofs.lemmas.Int.{to_z-of_z}
use Rattle.um_num.specs.Listed.{Listed}
use Rattle.um_model.specs.declared.deck.Entry.{Entry}
use Rattle.um_made.specs.ColumnWords.{entry_of}
use Rattle.um_made.proofs.ArcSteps.{no_sided_row, entry_kept, entry_zero, entry_none}
use Rattle.um_made.proofs.entries.entries.Goals as goal

pub loop-number-preserved-in_default : goal.loop-number-preserved-in_default
loop-number-preserved-in_default c =
    entry_none c.args.slots.now c.args.rows.now c.loop-number.number no_sided_row c.loop-number-test.true c.loop-number.list.items (filter_map (entry_of c.args.slots.now) (enumerate_from 0 c.args.rows.now)) c.in_default.is c.loop-number.invariant

pub loop-number-preserved-then-is_zero : goal.loop-number-preserved-then-is_zero
loop-number-preserved-then-is_zero c =
    entry_zero c.args.slots.now c.args.rows.now c.loop-number.number no_sided_row c.loop-number-test.true c.loop-number.list.items (filter_map (entry_of c.args.slots.now) (enumerate_from 0 c.args.rows.now)) c.in-Some.value c.in-Some.is (sym c.is_zero.ensures ∙ c.if-is_zero.true) c.loop-number.invariant

pub loop-number-preserved : goal.loop-number-preserved
loop-number-preserved c =
    let all : List Entry = filter_map (entry_of c.args.slots.now) (enumerate_from 0 c.args.rows.now) in
    let items = ap (λ (l : Listed Entry). l.items) c.in_ok-push.ensures.ok in
    let fits : FitsSigned w64 c.scaled.result = search rules in
    subst (λ (zs : List Entry). zs ++ filter_map (entry_of c.args.slots.now) (enumerate_from (c.loop-number.number + 1) (drop (c.loop-number.number + 1) c.args.rows.now)) ≡ all) (sym items)
    (entry_kept c.args.slots.now c.args.rows.now c.loop-number.number no_sided_row c.loop-number-test.true c.loop-number.list.items all _ c.in-Some.value c.in-Some.is (sym c.is_zero.ensures ∙ c.if-is_zero.false)
    (ap (λ (z : ℤ). record { row = c.loop-number.number; value = z }) (simp to_z-of_z c.scaled.ensures.value)) c.loop-number.invariant)
