use Rattle.um_turns.proofs.Vertices.{feasible_vertex}
use Rattle.um_turns.proofs.laws.feasible_vertex_law.Goals as goal

pub returns : goal.returns
returns c = feasible_vertex
