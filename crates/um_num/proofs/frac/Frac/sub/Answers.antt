use Rattle.um_num.specs.declared.exact.Op.TheVariants.{Sub}
use Rattle.um_num.proofs.TakenSteps.{small_taken, taken_as}
use Rattle.um_num.proofs.frac.Frac.sub.Goals as goal

pub returns-clause-taken : goal.returns-clause-taken
returns-clause-taken c h k = taken_as c.combined.result _ c.combined.ensures.steps (small_taken Sub c.args.self.now c.args.other.now (λ q. cc) h k)
