use Rattle.um_lp.proofs.Resets.{reset_start}
use Rattle.um_lp.proofs.laws.reset_start_law.Goals as goal

pub returns : goal.returns
returns c = reset_start
