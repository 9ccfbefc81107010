use Rattle.um_turns.proofs.Acting.{begins}
use Rattle.um_turns.proofs.laws.beginning_history_law.Goals as goal

pub returns : goal.returns
returns c = begins
