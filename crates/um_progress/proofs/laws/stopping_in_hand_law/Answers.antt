use Rattle.um_progress.proofs.Settling.{stops_in_hand}
use Rattle.um_progress.proofs.laws.stopping_in_hand_law.Goals as goal

pub returns : goal.returns
returns c = stops_in_hand (Unit {0})
