use Rattle.um_lp.proofs.Resets.{reset_rows}
use Rattle.um_lp.proofs.laws.reset_rows_law.Goals as goal

pub returns : goal.returns
returns c = reset_rows
