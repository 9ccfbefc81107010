use Rattle.um_turns.proofs.Chains.{pivots_all}
use Rattle.um_turns.proofs.laws.pivots_law.Goals as goal

pub returns : goal.returns
returns c = pivots_all
