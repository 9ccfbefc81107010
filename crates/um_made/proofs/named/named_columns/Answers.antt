use Rattle.std.proofs.Common.{◌≡◌, List, [], ◌∷◌, map, ◌++◌, sym, ap, subst, ◌∙◌}
use Rattle.std.proofs.lemmas.List.{nil_from_length, append-nil, map-append}
use Rattle.um_num.specs.Listed.{Listed}
use Rattle.um_model.specs.Values.{ColumnValue, plain_column}
use Rattle.um_model.specs.declared.deck.Column.{Column}
use Rattle.um_statements.specs.Statements.{Name}
use Rattle.um_made.specs.declared.parts.ColumnPart.{ColumnPart}
use Rattle.um_made.specs.NamedWords.{named_columns}
use Rattle.um_made.proofs.NamedFacts.{columns_past, columns_take}
use Rattle.um_made.proofs.named.named_columns.Goals as goal

pub loop-name-preserved-in_default : goal.loop-name-preserved-in_default
loop-name-preserved-in_default c =
    columns_past (map plain_column c.loop-name.list.items) (named_columns c.args.columns.items c.args.left.items) c.loop-name.name-iterator.rest.items (c.in-Some.name, c.in-Some._part) c.next.new.self.rest.items c.in-Some.ensures.steps.0 c.loop-name.left.rest.items c.next-in-loop-name.new.self.rest.items
    (nil_from_length c.loop-name.left.rest.items (sym c.loop-name.left.rest.ok.0 ∙ c.in_default.ensures.cases.0)) (nil_from_length c.next-in-loop-name.new.self.rest.items (sym c.next-in-loop-name.new.self.rest.ok.0 ∙ c.in_default.ensures.cases.1)) c.loop-name.invariant

pub loop-name-preserved : goal.loop-name-preserved
loop-name-preserved c =
    let all : List ColumnValue = named_columns c.args.columns.items c.args.left.items in
    let items = ap (λ (l : Listed Column). map plain_column l.items) c.in_ok-push.ensures.ok ∙ map-append plain_column c.loop-name.list.items (c.named_column.result ∷ []) in
    subst (λ (zs : List ColumnValue). zs ++ named_columns c.next.new.self.rest.items c.next-in-loop-name.new.self.rest.items ≡ all) (sym items)
    (columns_take (map plain_column c.loop-name.list.items) all c.loop-name.name-iterator.rest.items (c.in-Some.name, c.in-Some._part) c.next.new.self.rest.items c.in-Some.ensures.steps.0 c.loop-name.left.rest.items c.in-Some-next.column c.next-in-loop-name.new.self.rest.items c.in-Some-next.ensures.cases.0 (plain_column c.named_column.result) c.named_column.ensures c.loop-name.invariant)

pub returns : goal.returns
returns c =
    let none : c.loop-name.name-iterator.rest.items ≡ [] = nil_from_length c.loop-name.name-iterator.rest.items (sym c.loop-name.name-iterator.rest.ok.0 ∙ c.in-None.ensures.steps.0) in
    sym (append-nil (map plain_column c.loop-name.list.items)) ∙ (sym (ap (λ (es : List (Name × ColumnPart)). map plain_column c.loop-name.list.items ++ named_columns es c.loop-name.left.rest.items) none) ∙ c.loop-name.invariant)
