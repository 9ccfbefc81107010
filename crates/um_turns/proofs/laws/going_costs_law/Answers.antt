use Rattle.um_turns.proofs.Going.{going_costs}
use Rattle.um_turns.proofs.laws.going_costs_law.Goals as goal

pub returns : goal.returns
returns c = going_costs
