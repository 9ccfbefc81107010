use Rattle.um_progress.proofs.Lineages.{part_lineage}
use Rattle.um_progress.proofs.laws.parting_lineage_law.Goals as goal

pub returns : goal.returns
returns c = part_lineage (Unit {0})
