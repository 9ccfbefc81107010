use Rattle.std.proofs.Common.{refl}
use Rattle.um_num.proofs.TakenSteps.{sum_taken, taken_as}
use Rattle.um_num.proofs.frac.Frac.add.Goals as goal

pub returns-clause-taken : goal.returns-clause-taken
returns-clause-taken c h k = taken_as c.combined.result _ c.combined.ensures.steps (sum_taken c.args.self.now c.args.other.now _ h k refl)
