use Rattle.um_progress.proofs.Settling.{room_for_two}
use Rattle.um_progress.proofs.laws.room_law.Goals as goal

pub returns : goal.returns
returns c = room_for_two (Unit {0})
