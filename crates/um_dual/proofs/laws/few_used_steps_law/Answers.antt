use Rattle.um_dual.proofs.CountingUsed.{few_used_steps}
use Rattle.um_dual.proofs.laws.few_used_steps_law.Goals as goal

pub returns : goal.returns
returns c = few_used_steps
