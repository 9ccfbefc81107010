use Rattle.um_solving.proofs.NodeReadings.{vertex-law}
use Rattle.um_solving.proofs.laws.vertex_law.Goals as goal

pub returns : goal.returns
returns c = vertex-law
