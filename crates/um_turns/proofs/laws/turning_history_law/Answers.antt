use Rattle.um_turns.proofs.Acting.{turns}
use Rattle.um_turns.proofs.laws.turning_history_law.Goals as goal

pub returns : goal.returns
returns c = turns
