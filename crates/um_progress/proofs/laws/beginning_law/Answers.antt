use Rattle.um_progress.proofs.Settling.{begins}
use Rattle.um_progress.proofs.laws.beginning_law.Goals as goal

pub returns : goal.returns
returns c = begins (Unit {0})
