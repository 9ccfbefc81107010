use Rattle.std.proofs.Common.{map}
use Rattle.um_model.specs.Values.{plain_column}
use Rattle.um_relax.specs.KeyRows.{AreKeyRows}
use Rattle.um_relax.proofs.key_rows.key_rows.Given as goal

abbrev pub invariant-loop-row : goal.invariant-loop-row
invariant-loop-row l = AreKeyRows (map plain_column l.columns) l.rows l.row l.keys.items
