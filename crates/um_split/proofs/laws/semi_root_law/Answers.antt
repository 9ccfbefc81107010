use Rattle.um_split.proofs.SemiLows.{semi-root-law}
use Rattle.um_split.proofs.laws.semi_root_law.Goals as goal

pub returns : goal.returns
returns c = semi-root-law
