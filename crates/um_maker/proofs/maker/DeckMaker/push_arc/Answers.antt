use Rattle.std.proofs.Common.{◌≡◌, ◌∙◌, None, Some, sym, ap, subst}
use Rattle.um_num.specs.Listed.{Listed}
use Rattle.um_statements.specs.declared.parts.ArcPart.{ArcPart}
use Rattle.um_statements.specs.Statements.{ArcTold}
use Rattle.um_statements.specs.Said.{Said, row_place, column_place}
use Rattle.um_statements.specs.CallRules.{first_fault}
use Rattle.um_maker.specs.Makers.{arc_rules, adds_column}
use Rattle.um_maker.specs.contracts.maker.DeckMaker.{the_view}
use Rattle.um_maker.proofs.ArcSteps.{known_rules, arc_pushed, one_column, no_column}
use Rattle.um_maker.proofs.MakerKept.{kept_by, nothing_more, same_place}
use Rattle.um_maker.proofs.maker.DeckMaker.push_arc.Goals as goal

pub returns-then-adds-clause-ok : goal.returns-then-adds-clause-ok
returns-then-adds-clause-ok c =
    let row = subst (λ (s : Said). row_place s.rows c.args.row.now ≡ Some c.args.row_at) (sym c.self.view_is) c.requires.row in
    let column = subst (λ (s : Said). column_place s.columns c.args.column.now ≡ Some c.args.column_at) (sym c.self.view_is) c.requires.column in
    rw (← c.self.view_is) (arc_pushed (the_view c.self.inside) c.args.row.now c.args.column.now c.args.value.now c.args.row_at c.args.column_at _ row column (ap (λ (l : Listed ArcPart). l.items) c.in_ok-push.ensures.ok))

pub returns-else-adds-clause-ok : goal.returns-else-adds-clause-ok
returns-else-adds-clause-ok c =
    let row = subst (λ (s : Said). row_place s.rows c.args.row.now ≡ Some c.args.row_at) (sym c.self.view_is) c.requires.row in
    let column = subst (λ (s : Said). column_place s.columns c.args.column.now ≡ Some c.args.column_at) (sym c.self.view_is) c.requires.column in
    rw (← c.self.view_is) (arc_pushed (the_view c.self.inside) c.args.row.now c.args.column.now c.args.value.now c.args.row_at c.args.column_at _ row column (ap (λ (l : Listed ArcPart). l.items) c.in_ok-push.ensures.ok))

pub invariant_of-self-then-adds : goal.invariant_of-self-then-adds
invariant_of-self-then-adds c =
    let old : Said = the_view c.self.inside in
    let row = subst (λ (s : Said). row_place s.rows c.args.row.now ≡ Some c.args.row_at) (sym c.self.view_is) c.requires.row in
    let column = subst (λ (s : Said). column_place s.columns c.args.column.now ≡ Some c.args.column_at) (sym c.self.view_is) c.requires.column in
    let allowed = subst (λ (s : Said). first_fault (arc_rules s c.args.row_at c.args.column_at c.args.value.now) ≡ None) (sym c.self.view_is) c.requires.allowed in
    let adds = subst (λ (s : Said). c.adds_column-adds.result ≡ adds_column s c.args.column_at c.args.value.now) (sym c.self.view_is) c.adds_column-adds.ensures in
    kept_by old _ (ArcTold c.args.row.now c.args.column.now c.args.value.now) _ _ _ _ _ _ c.self.invariant c.requires.number (known_rules old c.args.row.now c.args.column.now c.args.value.now c.args.row_at c.args.column_at row column ∙ allowed)
    (arc_pushed old c.args.row.now c.args.column.now c.args.value.now c.args.row_at c.args.column_at _ row column (ap (λ (l : Listed ArcPart). l.items) c.in_ok-push.ensures.ok))
    (record { first_is = same_place _; sided_is = nothing_more _; curved_is = one_column old c.args.row.now c.args.column.now c.args.value.now c.args.column_at _ column (sym adds ∙ c.if-adds.true) })

pub invariant_of-self-else-adds : goal.invariant_of-self-else-adds
invariant_of-self-else-adds c =
    let old : Said = the_view c.self.inside in
    let row = subst (λ (s : Said). row_place s.rows c.args.row.now ≡ Some c.args.row_at) (sym c.self.view_is) c.requires.row in
    let column = subst (λ (s : Said). column_place s.columns c.args.column.now ≡ Some c.args.column_at) (sym c.self.view_is) c.requires.column in
    let allowed = subst (λ (s : Said). first_fault (arc_rules s c.args.row_at c.args.column_at c.args.value.now) ≡ None) (sym c.self.view_is) c.requires.allowed in
    let adds = subst (λ (s : Said). c.adds_column-adds.result ≡ adds_column s c.args.column_at c.args.value.now) (sym c.self.view_is) c.adds_column-adds.ensures in
    kept_by old _ (ArcTold c.args.row.now c.args.column.now c.args.value.now) _ _ _ _ _ _ c.self.invariant c.requires.number (known_rules old c.args.row.now c.args.column.now c.args.value.now c.args.row_at c.args.column_at row column ∙ allowed)
    (arc_pushed old c.args.row.now c.args.column.now c.args.value.now c.args.row_at c.args.column_at _ row column (ap (λ (l : Listed ArcPart). l.items) c.in_ok-push.ensures.ok))
    (record { first_is = same_place _; sided_is = nothing_more _; curved_is = no_column old c.args.row.now c.args.column.now c.args.value.now c.args.column_at _ column (sym adds ∙ c.if-adds.false) })
