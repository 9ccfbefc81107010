use Rattle.std.proofs.Common.{List, map, get_or, take, subst}
use Rattle.std.proofs.lemmas.List.{take_all}
use Rattle.um_statements.specs.Statements.{Name}
use Rattle.um_statements.specs.Said.{Said}
use Rattle.um_made.specs.declared.parts.ColumnPart.{ColumnPart}
use Rattle.um_made.specs.Views.{column_said}
use Rattle.um_made.specs.Parts.{said}
use Rattle.um_made.specs.ColumnWords.{AreColumnsLeft, IsColumnLeft}
use Rattle.um_made.proofs.Walks.{mapped_taken}
use Rattle.um_made.proofs.NamedFacts.{left_push}
use Rattle.um_made.proofs.told.Told.columns_left.Goals as goal

pub loop-column-preserved : goal.loop-column-preserved
loop-column-preserved c =
    let s : Said = said c.args.self.now in
    let cols : List (Name × ColumnPart) = c.args.self.now.columns.items in
    let within = rw c.deref-column-items.ensures.value at c.loop-column-test.true in
    let is = rw c.deref-column-items.ensures.value at c.column-item.is in
    rw (mapped_taken column_said cols c.loop-column.column-index c.column-item.result within, c.in_ok-push.ensures)
    (left_push s (map column_said (take c.loop-column.column-index cols)) c.loop-column.left.items (column_said (get_or cols c.loop-column.column-index c.column-item.result)) c.in_ok-one.one c.loop-column.invariant
    (subst (λ (y : Name × ColumnPart). IsColumnLeft s (column_said y) c.in_ok-one.one) is c.in_ok-one.ensures))

pub returns : goal.returns
returns c =
    let s : Said = said c.args.self.now in
    let past = rw c.deref-column-items.ensures.value at c.loop-column-test.false in
    subst (λ (xs : List (Name × ColumnPart)). AreColumnsLeft s (map column_said xs) c.loop-column.left.items) (take_all c.loop-column.column-index c.args.self.now.columns.items past) c.loop-column.invariant
