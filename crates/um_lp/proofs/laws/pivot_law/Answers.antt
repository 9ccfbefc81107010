use Rattle.um_lp.proofs.Pivots.{pivot-law}
use Rattle.um_lp.proofs.laws.pivot_law.Goals as goal

pub returns : goal.returns
returns c = pivot-law
