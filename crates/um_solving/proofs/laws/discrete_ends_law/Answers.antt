use Rattle.um_solving.proofs.Goings.{discrete-ends-law}
use Rattle.um_solving.proofs.laws.discrete_ends_law.Goals as goal

pub returns : goal.returns
returns c = discrete-ends-law
