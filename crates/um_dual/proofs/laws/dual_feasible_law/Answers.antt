use Rattle.um_dual.proofs.Feasible.{step_feasible}
use Rattle.um_dual.proofs.laws.dual_feasible_law.Goals as goal

pub returns : goal.returns
returns c = step_feasible
