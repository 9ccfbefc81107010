use Rattle.um_turns.proofs.Closing.{vertex_closes}
use Rattle.um_turns.proofs.laws.vertex_closes_law.Goals as goal

pub returns : goal.returns
returns c = vertex_closes
