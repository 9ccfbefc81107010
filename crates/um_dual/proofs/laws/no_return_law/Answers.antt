use Rattle.um_dual.proofs.NoReturn.{no_return}
use Rattle.um_dual.proofs.laws.no_return_law.Goals as goal

pub returns : goal.returns
returns c = no_return
