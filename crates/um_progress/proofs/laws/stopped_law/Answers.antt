use Rattle.um_progress.proofs.Settling.{stopped_accepted}
use Rattle.um_progress.proofs.laws.stopped_law.Goals as goal

pub returns : goal.returns
returns c = stopped_accepted (Unit {0})
