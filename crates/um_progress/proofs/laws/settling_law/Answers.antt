use Rattle.um_progress.proofs.Settling.{settles_search}
use Rattle.um_progress.proofs.laws.settling_law.Goals as goal

pub returns : goal.returns
returns c = settles_search (Unit {0})
