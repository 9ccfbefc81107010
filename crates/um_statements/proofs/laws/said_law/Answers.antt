use Rattle.um_statements.proofs.SaidKept.{said-law}
use Rattle.um_statements.proofs.laws.said_law.Goals as goal

pub returns : goal.returns
returns c = said-law
