use Rattle.um_num.proofs.Order.{not_below}
use Rattle.um_num.proofs.frac.Frac.is_below.Goals as goal

pub returns-in-Equal : goal.returns-in-Equal
returns-in-Equal c = (λ f. cc, λ b. absurd (not_below c.compare.result c.args.self.now c.args.other.now c.compare.ensures.value c.in-Equal.is b))
