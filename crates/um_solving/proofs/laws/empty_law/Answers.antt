use Rattle.um_solving.proofs.NodeReadings.{empty-law}
use Rattle.um_solving.proofs.laws.empty_law.Goals as goal

pub returns : goal.returns
returns c = empty-law
