use Rattle.um_soundness.proofs.Leaves.{closed-leaf-law}
use Rattle.um_soundness.proofs.closed_leaf_law.Goals as goal

pub returns : goal.returns
returns c = closed-leaf-law
