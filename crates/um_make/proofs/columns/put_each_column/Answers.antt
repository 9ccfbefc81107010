use Rattle.std.proofs.Common.{arith}
use Rattle.um_model.specs.Values.{plain_column}
use Rattle.um_make.specs.NormalLines.{column_data}
use Rattle.um_make.proofs.Parts.{one_less}
use Rattle.um_make.proofs.columns.put_each_column.Goals as goal

pub loop-column-preserved : goal.loop-column-preserved
loop-column-preserved c =
    one_less (column_data c.args.deck.now) plain_column c.args.columns.now c.loop-column.column-index c.column-item.result _ _ _ (omega arith) c.column-item.is c.in_ok-put_column.ensures c.loop-column.invariant
