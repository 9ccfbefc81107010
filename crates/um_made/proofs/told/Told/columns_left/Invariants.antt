use Rattle.std.proofs.Common.{take, map}
use Rattle.um_made.specs.Views.{column_said}
use Rattle.um_made.specs.Parts.{said}
use Rattle.um_made.specs.ColumnWords.{AreColumnsLeft}
use Rattle.um_made.proofs.told.Told.columns_left.Given as goal

abbrev pub invariant-loop-column : goal.invariant-loop-column
invariant-loop-column l = AreColumnsLeft (said l.self) (map column_said (take l.column-index l.self.columns.items)) l.left.items
