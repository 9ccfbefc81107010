use Rattle.um_solving.proofs.NodeReadings.{held-law}
use Rattle.um_solving.proofs.laws.held_law.Goals as goal

pub returns : goal.returns
returns c = held-law
