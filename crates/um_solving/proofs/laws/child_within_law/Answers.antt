use Rattle.um_solving.proofs.RootBoxes.{child-within-law}
use Rattle.um_solving.proofs.laws.child_within_law.Goals as goal

pub returns : goal.returns
returns c = child-within-law
