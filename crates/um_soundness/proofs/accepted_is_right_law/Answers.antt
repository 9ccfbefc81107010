use Rattle.um_soundness.proofs.AcceptedTrees.{accepted-is-right-law}
use Rattle.um_soundness.proofs.accepted_is_right_law.Goals as goal

pub returns : goal.returns
returns c = accepted-is-right-law
