use Rattle.um_lp.proofs.Resets.{reset_costs}
use Rattle.um_lp.proofs.laws.reset_costs_law.Goals as goal

pub returns : goal.returns
returns c = reset_costs
