use Rattle.std.proofs.Common.{◌≡◌, ◌+◌, List, [], ◌++◌, drop, refl, sym, ap, subst, ◌∙◌}
use Rattle.std.proofs.lemmas.List.{drop_all, nil_from_length, append-nil}
use Rattle.um_num.specs.Listed.{Listed}
use Rattle.um_model.specs.declared.deck.Row.{Row}
use Rattle.um_statements.specs.Statements.{Name}
use Rattle.um_made.specs.declared.parts.RowPart.{RowPart}
use Rattle.um_made.specs.NamedWords.{named_rows}
use Rattle.um_made.proofs.ArcSteps.{no_sided_row}
use Rattle.um_made.proofs.NamedFacts.{rows_skip, rows_past, rows_take}
use Rattle.um_made.proofs.named.named_rows.Goals as goal

pub loop-name-preserved-then-is_n : goal.loop-name-preserved-then-is_n
loop-name-preserved-then-is_n c =
    rows_skip c.loop-name.list.items (named_rows c.args.rows.items c.args.left.now) c.loop-name.name-iterator.rest.items (c.in-Some.name, c.in-Some.part) c.next.new.self.rest.items c.in-Some.ensures.steps.0 (drop c.loop-name.number c.args.left.now) (sym c.is_n.ensures ∙ c.if-is_n.true) c.loop-name.invariant

pub loop-name-preserved-then-number-left : goal.loop-name-preserved-then-number-left
loop-name-preserved-then-number-left c =
    rows_past c.loop-name.list.items (named_rows c.args.rows.items c.args.left.now) c.loop-name.name-iterator.rest.items (c.in-Some.name, c.in-Some.part) c.next.new.self.rest.items c.in-Some.ensures.steps.0 (drop c.loop-name.number c.args.left.now) (drop_all c.loop-name.number c.args.left.now c.if-number-left.true) c.loop-name.invariant

pub loop-name-preserved : goal.loop-name-preserved
loop-name-preserved c =
    let all : List Row = named_rows c.args.rows.items c.args.left.now in
    let items = ap (λ (l : Listed Row). l.items) c.in_ok-push.ensures.ok in
    subst (λ (zs : List Row). zs ++ named_rows c.next.new.self.rest.items (drop (c.loop-name.number + 1) c.args.left.now) ≡ all) (sym items)
    (rows_take c.loop-name.list.items all c.loop-name.name-iterator.rest.items (c.in-Some.name, c.in-Some.part) c.next.new.self.rest.items c.in-Some.ensures.steps.0 c.args.left.now c.loop-name.number no_sided_row c.if-number-left.false (sym c.is_n.ensures ∙ c.if-is_n.false) _ refl c.loop-name.invariant)

pub returns : goal.returns
returns c =
    let none : c.loop-name.name-iterator.rest.items ≡ [] = nil_from_length c.loop-name.name-iterator.rest.items (sym c.loop-name.name-iterator.rest.ok.0 ∙ c.in-None.ensures.steps.0) in
    sym (append-nil c.loop-name.list.items) ∙ (sym (ap (λ (es : List (Name × RowPart)). c.loop-name.list.items ++ named_rows es (drop c.loop-name.number c.args.left.now)) none) ∙ c.loop-name.invariant)
