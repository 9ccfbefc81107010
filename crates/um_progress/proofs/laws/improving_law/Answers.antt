use Rattle.um_progress.proofs.Acts.{improve_act}
use Rattle.um_progress.proofs.laws.improving_law.Goals as goal

pub returns : goal.returns
returns c = improve_act (Unit {0})
