use Rattle.um_lp.proofs.OneState.{one_pivot}
use Rattle.um_lp.proofs.laws.one_pivot_law.Goals as goal

pub returns : goal.returns
returns c = one_pivot
