use Rattle.um_solving.proofs.RootBoxes.{full-root-law}
use Rattle.um_solving.proofs.laws.full_root_law.Goals as goal

pub returns : goal.returns
returns c = full-root-law
