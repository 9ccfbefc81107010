use Rattle.um_turns.proofs.Acting.{parts}
use Rattle.um_turns.proofs.laws.parting_history_law.Goals as goal

pub returns : goal.returns
returns c = parts
