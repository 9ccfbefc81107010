use Rattle.um_mps.proofs.PairSteps.{told_then, told_short}
use Rattle.um_mps.proofs.columns.tell_column.Goals as goal

pub returns-in-Ok-clause-told : goal.returns-in-Ok-clause-told
returns-in-Ok-clause-told c = told_then _ _ _ _ _ _ c.in-Ok.ensures.told.0 c.in-Ok.ensures.told.1 c.tell_pairs.ensures.told

pub returns-in-Err-clause-told : goal.returns-in-Err-clause-told
returns-in-Err-clause-told c = told_short _ _ c.args.maker.now _ c.begin.new.maker c.in-Err.ensures.told
