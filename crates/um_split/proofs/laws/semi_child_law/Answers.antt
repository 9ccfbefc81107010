use Rattle.um_split.proofs.SemiLows.{semi-child-law}
use Rattle.um_split.proofs.laws.semi_child_law.Goals as goal

pub returns : goal.returns
returns c = semi-child-law
