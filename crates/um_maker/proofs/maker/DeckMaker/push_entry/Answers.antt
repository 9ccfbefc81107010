use Rattle.std.proofs.Common.{◌≡◌, ◌-◌, false, map, OnOk, OnErr, refl, sym, ap, subst, List, Some}
use Rattle.um_num.specs.Listed.{Listed}
use Rattle.um_statements.specs.declared.parts.EntryPart.{EntryPart}
use Rattle.um_statements.specs.Said.{Said, ColumnSaid, row_place}
use Rattle.um_maker.specs.contracts.maker.DeckMaker.{the_view}
use Rattle.um_maker.proofs.EntrySteps.{entry_told, entry_refused, on_ok, on_err}
use Rattle.um_statements.specs.Statements.{EntryTold}
use Rattle.um_made.specs.Views.{column_said}
use Rattle.um_statements.specs.CallRules.{last_has, holds_row}
use Rattle.um_maker.specs.NamedLists.{with_item}
use Rattle.um_maker.specs.Makers.{IsMaker}
use Rattle.um_maker.proofs.EntrySteps.{entry_allowed}
use Rattle.um_maker.proofs.MakerKept.{kept_as, on_both}
use Rattle.um_maker.proofs.maker.DeckMaker.push_entry.Goals as goal

pub returns-clause-ok : goal.returns-clause-ok
returns-clause-ok c =
    rw (← c.self.view_is) (on_ok c.push.result (λ pushed. entry_told (the_view c.self.inside) c.args.row.now c.args.value.now c.args.place c.self.inside.columns c.len-last.result c.at_mut.result.now _ refl
    (subst (λ (s : Said). row_place s.rows c.args.row.now ≡ Some c.args.place) (sym c.self.view_is) c.requires.place) c.len-last.ensures c.at_mut.ensures.value refl (ap (λ (l : Listed EntryPart). l.items) pushed)) c.push.ensures.ok)

pub returns-clause-err : goal.returns-clause-err
returns-clause-err c =
    rw (← c.self.view_is) (on_err c.push.result (λ kept. ap (λ (columns : List ColumnSaid). record (the_view c.self.inside) { columns = columns })
    (entry_refused c.self.inside.columns c.len-last.result c.at_mut.result.now _ c.len-last.ensures c.at_mut.ensures.value (ap (λ (l : Listed EntryPart). record c.at_mut.result.now { entries = l }) kept))) c.push.ensures.err)

pub invariant_of-self : goal.invariant_of-self
invariant_of-self c =
    let old : Said = the_view c.self.inside in
    let new : Said = record old { columns = map column_said (with_item c.self.inside.columns (c.len-last.result - 1) (record c.at_mut.result.now { entries = c.push.new.self })) } in
    let place = subst (λ (s : Said). row_place s.rows c.args.row.now ≡ Some c.args.place) (sym c.self.view_is) c.requires.place in
    let fresh = subst (λ (s : Said). last_has (λ (k : ColumnSaid). holds_row c.args.place k.entries) s.columns ≡ false) (sym c.self.view_is) c.requires.new in
    let told : OnOk c.push.result (IsMaker new c.self.inside.objective c.self.inside.sided_rows c.self.inside.arc_columns)
    = on_ok c.push.result (λ pushed. kept_as old new (EntryTold c.args.row.now c.args.value.now) _ _ _ c.self.invariant c.requires.number (entry_allowed old c.args.row.now c.args.value.now c.args.place place fresh)
    (entry_told old c.args.row.now c.args.value.now c.args.place c.self.inside.columns c.len-last.result c.at_mut.result.now _ refl place c.len-last.ensures c.at_mut.ensures.value refl (ap (λ (l : Listed EntryPart). l.items) pushed)) refl refl refl) c.push.ensures.ok in
    let refused : OnErr c.push.result (IsMaker new c.self.inside.objective c.self.inside.sided_rows c.self.inside.arc_columns)
    = on_err c.push.result (λ kept. subst (λ (columns : List ColumnSaid). IsMaker (record old { columns = columns }) c.self.inside.objective c.self.inside.sided_rows c.self.inside.arc_columns)
    (sym (entry_refused c.self.inside.columns c.len-last.result c.at_mut.result.now _ c.len-last.ensures c.at_mut.ensures.value (ap (λ (l : Listed EntryPart). record c.at_mut.result.now { entries = l }) kept))) c.self.invariant) c.push.ensures.err in
    on_both c.push.result told refused
