use Rattle.um_solving.proofs.FeasiblePoints.{feasible-law}
use Rattle.um_solving.proofs.laws.feasible_law.Goals as goal

pub returns : goal.returns
returns c = feasible-law
