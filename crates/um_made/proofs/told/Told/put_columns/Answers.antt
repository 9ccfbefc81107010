use Rattle.std.proofs.Common.{List, length, get_or, take, map, subst}
use Rattle.um_statements.specs.Statements.{Name}
use Rattle.um_made.specs.declared.parts.ColumnPart.{ColumnPart}
use Rattle.um_made.specs.Views.{column_said}
use Rattle.um_made.specs.NumberSteps.{PutsEntries}
use Rattle.um_made.proofs.Walks.{mapped_taken}
use Rattle.um_made.proofs.ToldFacts.{column_at}
use Rattle.um_made.proofs.RowNumberFacts.{puts_column}
use Rattle.um_made.proofs.told.Told.put_columns.Goals as goal

pub put_entries-requires-clause-within : goal.put_entries-requires-clause-within
put_entries-requires-clause-within c =
    let within = rw c.deref-column-items.ensures.value at c.loop-column-test.true in
    let is = rw c.deref-column-items.ensures.value at c.column-item.is in
    let column = column_at c.args.self.now c.requires.well c.loop-column.column-index c.column-item.result within is in
    rw c.as_slice.ensures (λ k d inside. rw c.loop-column.invariant.count_is (column.parts k d inside).place)

pub put_entries-requires-clause-distinct : goal.put_entries-requires-clause-distinct
put_entries-requires-clause-distinct c =
    let within = rw c.deref-column-items.ensures.value at c.loop-column-test.true in
    let is = rw c.deref-column-items.ensures.value at c.column-item.is in
    let column = column_at c.args.self.now c.requires.well c.loop-column.column-index c.column-item.result within is in
    rw c.as_slice.ensures column.distinct

pub loop-column-preserved : goal.loop-column-preserved
loop-column-preserved c =
    let cols : List (Name × ColumnPart) = c.args.self.now.columns.items in
    let within = rw c.deref-column-items.ensures.value at c.loop-column-test.true in
    let is = rw c.deref-column-items.ensures.value at c.column-item.is in
    let puts = rw c.as_slice.ensures at c.in_ok-put_entries.ensures in
    rw (mapped_taken column_said cols c.loop-column.column-index c.column-item.result within)
    (puts_column (length c.args.self.now.rows.items) (map column_said (take c.loop-column.column-index cols)) (column_said (get_or cols c.loop-column.column-index c.column-item.result)) c.loop-column.rows.items c.put_entries.new.rows.items c.loop-column.invariant
    (subst (λ (y : Name × ColumnPart). PutsEntries y.1.entries.items c.loop-column.rows.items c.put_entries.new.rows.items) is puts))
