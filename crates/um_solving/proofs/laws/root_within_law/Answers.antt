use Rattle.um_solving.proofs.RootBoxes.{root-within-law}
use Rattle.um_solving.proofs.laws.root_within_law.Goals as goal

pub returns : goal.returns
returns c = root-within-law
