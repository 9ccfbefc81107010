use Rattle.um_solving.proofs.NodeReadings.{stopped-law}
use Rattle.um_solving.proofs.laws.stopped_law.Goals as goal

pub returns : goal.returns
returns c = stopped-law
