use Rattle.um_turns.proofs.Acting.{behind}
use Rattle.um_turns.proofs.laws.behind_turn_law.Goals as goal

pub returns : goal.returns
returns c = behind
