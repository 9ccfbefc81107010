use Rattle.um_statements.proofs.SaidKept.{said-all-law}
use Rattle.um_statements.proofs.laws.said_all_law.Goals as goal

pub returns : goal.returns
returns c = said-all-law
