use Rattle.um_lp.proofs.Resets.{one_reset}
use Rattle.um_lp.proofs.laws.one_reset_law.Goals as goal

pub returns : goal.returns
returns c = one_reset
