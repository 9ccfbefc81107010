use Rattle.um_solving.proofs.NoCosts.{no-costs-vertex-law}
use Rattle.um_solving.proofs.laws.no_costs_vertex_law.Goals as goal

pub returns : goal.returns
returns c = no-costs-vertex-law
