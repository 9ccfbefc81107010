use Rattle.um_soundness.proofs.Nearest.{nearest-law}
use Rattle.um_soundness.proofs.nearest_law.Goals as goal

pub returns : goal.returns
returns c = nearest-law
