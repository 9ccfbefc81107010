use Rattle.um_soundness.proofs.Duality.{bound-law}
use Rattle.um_soundness.proofs.bound_law.Goals as goal

pub returns : goal.returns
returns c = bound-law
