use Rattle.um_progress.proofs.Settling.{infeasible_accepted}
use Rattle.um_progress.proofs.laws.infeasible_law.Goals as goal

pub returns : goal.returns
returns c = infeasible_accepted (Unit {0})
