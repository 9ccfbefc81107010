use Rattle.um_progress.proofs.Settling.{optimal_accepted}
use Rattle.um_progress.proofs.laws.optimal_law.Goals as goal

pub returns : goal.returns
returns c = optimal_accepted (Unit {0})
