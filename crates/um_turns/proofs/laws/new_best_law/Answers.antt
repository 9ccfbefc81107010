use Rattle.um_turns.proofs.Bests.{best_improves}
use Rattle.um_turns.proofs.laws.new_best_law.Goals as goal

pub returns : goal.returns
returns c = best_improves
