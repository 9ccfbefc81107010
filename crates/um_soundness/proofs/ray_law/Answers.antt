use Rattle.um_soundness.proofs.Moving.{ray-law}
use Rattle.um_soundness.proofs.ray_law.Goals as goal

pub returns : goal.returns
returns c = ray-law
