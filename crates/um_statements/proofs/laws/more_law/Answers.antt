use Rattle.um_statements.proofs.CollectedSteps.{more-law}
use Rattle.um_statements.proofs.laws.more_law.Goals as goal

pub returns : goal.returns
returns c = more-law
