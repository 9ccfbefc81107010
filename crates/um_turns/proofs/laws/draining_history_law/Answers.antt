use Rattle.um_turns.proofs.Acting.{drains}
use Rattle.um_turns.proofs.laws.draining_history_law.Goals as goal

pub returns : goal.returns
returns c = drains
