use Rattle.um_split.proofs.ChildBoxes.{branching-law}
use Rattle.um_split.proofs.laws.branching_law.Goals as goal

pub returns : goal.returns
returns c = branching-law
