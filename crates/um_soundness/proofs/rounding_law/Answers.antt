use Rattle.um_soundness.proofs.Nearest.{rounding-law}
use Rattle.um_soundness.proofs.rounding_law.Goals as goal

pub returns : goal.returns
returns c = rounding-law
