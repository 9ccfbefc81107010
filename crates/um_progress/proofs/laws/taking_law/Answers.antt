use Rattle.um_progress.proofs.Settling.{takes}
use Rattle.um_progress.proofs.laws.taking_law.Goals as goal

pub returns : goal.returns
returns c = takes (Unit {0})
