use Rattle.um_split.proofs.Cuts.{split-law}
use Rattle.um_split.proofs.laws.split_law.Goals as goal

pub returns : goal.returns
returns c = split-law
