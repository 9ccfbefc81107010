use Rattle.um_turns.proofs.Acting.{settles}
use Rattle.um_turns.proofs.laws.settling_history_law.Goals as goal

pub returns : goal.returns
returns c = settles
