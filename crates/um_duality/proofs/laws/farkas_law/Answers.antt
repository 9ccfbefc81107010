use Rattle.um_duality.proofs.NoPoint.{farkas-law}
use Rattle.um_duality.proofs.laws.farkas_law.Goals as goal

pub returns : goal.returns
returns c = farkas-law
