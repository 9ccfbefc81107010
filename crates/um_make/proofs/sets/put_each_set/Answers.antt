use Rattle.std.proofs.Common.{arith, map}
use Rattle.um_model.specs.Values.{plain_column, plain_set}
use Rattle.um_make.specs.NormalLines.{set_data}
use Rattle.um_make.proofs.Parts.{one_less}
use Rattle.um_make.proofs.sets.put_each_set.Goals as goal

pub loop-set-preserved : goal.loop-set-preserved
loop-set-preserved c =
    one_less (set_data (map plain_column c.args.columns.now)) plain_set c.args.sets.now c.loop-set.set-index c.set-item.result _ _ _ (omega arith) c.set-item.is c.in_ok-put_set.ensures c.loop-set.invariant
