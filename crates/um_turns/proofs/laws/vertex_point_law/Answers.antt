use Rattle.um_turns.proofs.Vertices.{vertex_point}
use Rattle.um_turns.proofs.laws.vertex_point_law.Goals as goal

pub returns : goal.returns
returns c = vertex_point
