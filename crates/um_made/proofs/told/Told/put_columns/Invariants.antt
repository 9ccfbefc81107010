use Rattle.std.proofs.Common.{take, map, length}
use Rattle.um_made.specs.Views.{column_said}
use Rattle.um_made.specs.NumberSteps.{PutsColumns}
use Rattle.um_made.proofs.told.Told.put_columns.Given as goal

abbrev pub invariant-loop-column : goal.invariant-loop-column
invariant-loop-column l = PutsColumns (length l.self.rows.items) (map column_said (take l.column-index l.self.columns.items)) l.rows.items
