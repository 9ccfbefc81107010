use Rattle.um_soundness.proofs.Leaves.{empty-leaf-law}
use Rattle.um_soundness.proofs.empty_leaf_law.Goals as goal

pub returns : goal.returns
returns c = empty-leaf-law
