use Rattle.um_soundness.proofs.Scaling.{scaling-law}
use Rattle.um_soundness.proofs.scaling_law.Goals as goal

pub returns : goal.returns
returns c = scaling-law
