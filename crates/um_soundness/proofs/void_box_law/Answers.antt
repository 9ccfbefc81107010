use Rattle.um_soundness.proofs.VoidBoxes.{void-box-law}
use Rattle.um_soundness.proofs.void_box_law.Goals as goal

pub returns : goal.returns
returns c = void-box-law
