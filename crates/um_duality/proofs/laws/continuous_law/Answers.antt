use Rattle.um_duality.proofs.FeasibleVertex.{continuous-law}
use Rattle.um_duality.proofs.laws.continuous_law.Goals as goal

pub returns : goal.returns
returns c = continuous-law
