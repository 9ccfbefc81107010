use Rattle.um_turns.proofs.Bests.{best_stays}
use Rattle.um_turns.proofs.laws.still_best_law.Goals as goal

pub returns : goal.returns
returns c = best_stays
