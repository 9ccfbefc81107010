use Rattle.um_solving.proofs.Goings.{next-law}
use Rattle.um_solving.proofs.laws.next_law.Goals as goal

pub returns : goal.returns
returns c = next-law
