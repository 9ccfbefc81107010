use Rattle.um_lp.proofs.Unique.{entries_unique}
use Rattle.um_lp.proofs.laws.one_tableau_law.Goals as goal

pub returns : goal.returns
returns c = entries_unique
