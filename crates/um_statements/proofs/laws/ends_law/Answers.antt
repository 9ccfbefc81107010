use Rattle.um_statements.proofs.LastBounds.{ends-law}
use Rattle.um_statements.proofs.laws.ends_law.Goals as goal

pub returns : goal.returns
returns c = ends-law
