use Rattle.um_mps.proofs.PairSteps.{column_some}
use Rattle.um_mps.proofs.columns.begin.Goals as goal

pub returns-clause-some : goal.returns-clause-some
returns-clause-some c = column_some _ _ _ _ _ c.column.ensures
