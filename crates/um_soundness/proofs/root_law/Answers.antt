use Rattle.um_soundness.proofs.Cover.{root-law}
use Rattle.um_soundness.proofs.root_law.Goals as goal

pub returns : goal.returns
returns c = root-law
