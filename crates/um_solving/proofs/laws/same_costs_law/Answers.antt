use Rattle.um_relax.proofs.Runs.{same-costs-law}
use Rattle.um_solving.proofs.laws.same_costs_law.Goals as goal

pub returns : goal.returns
returns c = same-costs-law
