use Rattle.um_lp.proofs.Solutions.{same-solutions-law}
use Rattle.um_lp.proofs.laws.same_solutions_law.Goals as goal

pub returns : goal.returns
returns c = same-solutions-law
