use Rattle.um_lp.proofs.Solutions.{tableau-solutions-law}
use Rattle.um_lp.proofs.laws.tableau_solutions_law.Goals as goal

pub returns : goal.returns
returns c = tableau-solutions-law
