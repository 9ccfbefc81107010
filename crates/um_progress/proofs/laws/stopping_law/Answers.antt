use Rattle.um_progress.proofs.Stopping.{stop_begins}
use Rattle.um_progress.proofs.laws.stopping_law.Goals as goal

pub returns : goal.returns
returns c = stop_begins (Unit {0})
