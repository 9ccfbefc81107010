use Rattle.std.proofs.Common.{◌<◌, ◌++◌, ◌∷◌, [], List, length, get_or, take, ap, ◌∙◌}
use Rattle.std.proofs.lemmas.List.{take_more, get_or_default}
use Rattle.um_num.specs.Listed.{Listed}
use Rattle.um_num.specs.declared.decimal.Decimal.{Decimal}
use Rattle.um_statements.specs.declared.parts.ArcPart.{ArcPart}
use Rattle.um_made.specs.declared.numbers.RowNumbers.{RowNumbers}
use Rattle.um_made.proofs.RowNumberFacts.{no_arc, puts_arc}
use Rattle.um_made.proofs.numbers.put_arcs.Goals as goal

pub loop-arc-preserved : goal.loop-arc-preserved
loop-arc-preserved c =
    let arcs : List ArcPart = c.args.arcs.now in
    let a : ArcPart = get_or arcs c.loop-arc.arc-index no_arc in
    let now : List RowNumbers = c.loop-arc.rows.items in
    let within : a.row < length c.args.rows.now.items = c.requires c.loop-arc.arc-index no_arc c.loop-arc-test.true in
    let inner : a.row < length now = rw c.loop-arc.invariant.count_stays within in
    rw (take_more arcs c.loop-arc.arc-index no_arc c.loop-arc-test.true)
    (puts_arc (take c.loop-arc.arc-index arcs) a c.args.rows.now.items now _ within c.loop-arc.invariant
    (λ d. ap (λ (l : Listed Decimal). l.items) c.in_ok-push.ensures.ok ∙ ap (λ (r : RowNumbers). r.arcs.items ++ a.value ∷ []) (c.at_mut.ensures.value ∙ get_or_default now a.row _ d inner))
    (λ d. ap (λ (r : RowNumbers). r.coefficients.items) (c.at_mut.ensures.value ∙ get_or_default now a.row _ d inner)))
