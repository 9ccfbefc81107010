use Rattle.um_statements.proofs.CollectedSteps.{collected-law}
use Rattle.um_statements.proofs.laws.collected_law.Goals as goal

pub returns : goal.returns
returns c = collected-law
