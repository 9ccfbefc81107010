use Rattle.um_progress.proofs.Lineages.{settle_lineage}
use Rattle.um_progress.proofs.laws.settling_lineage_law.Goals as goal

pub returns : goal.returns
returns c = settle_lineage (Unit {0})
