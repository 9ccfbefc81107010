use Rattle.um_solving.proofs.Goings.{within-law}
use Rattle.um_solving.proofs.laws.within_law.Goals as goal

pub returns : goal.returns
returns c = within-law
