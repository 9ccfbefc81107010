use Rattle.um_lp.proofs.OneNext.{one_next}
use Rattle.um_lp.proofs.laws.one_next_law.Goals as goal

pub returns : goal.returns
returns c = one_next
