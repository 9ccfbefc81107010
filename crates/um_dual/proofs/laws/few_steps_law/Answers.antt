use Rattle.um_dual.proofs.Counting.{few_steps}
use Rattle.um_dual.proofs.laws.few_steps_law.Goals as goal

pub returns : goal.returns
returns c = few_steps
