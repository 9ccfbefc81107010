use Rattle.um_duality.proofs.FeasibleVertex.{vertex-law}
use Rattle.um_duality.proofs.laws.vertex_law.Goals as goal

pub returns : goal.returns
returns c = vertex-law
