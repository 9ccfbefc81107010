use Rattle.um_turns.proofs.Waiting.{handed_out}
use Rattle.um_turns.proofs.laws.taking_history_law.Goals as goal

pub returns : goal.returns
returns c = handed_out
