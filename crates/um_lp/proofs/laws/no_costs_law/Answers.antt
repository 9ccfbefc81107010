use Rattle.um_lp.proofs.Resets.{no_costs}
use Rattle.um_lp.proofs.laws.no_costs_law.Goals as goal

pub returns : goal.returns
returns c = no_costs
