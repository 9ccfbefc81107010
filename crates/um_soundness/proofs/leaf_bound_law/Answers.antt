use Rattle.um_soundness.proofs.Objectives.{leaf-bound-law}
use Rattle.um_soundness.proofs.leaf_bound_law.Goals as goal

pub returns : goal.returns
returns c = leaf-bound-law
