use Rattle.std.proofs.Common.{pos, refl}
use Rattle.std.proofs.lemmas.Bool.{false≢true}
use Rattle.um_point.proofs.SetRules.{nonzero_at, zeros_more}
use Rattle.um_point.proofs.sets.is_zero_from.Goals as goal

pub returns-then-is_nonzero : goal.returns-then-is_nonzero
returns-then-is_nonzero c = (
  λ h. absurd (false≢true h),
  λ zeros. absurd (nonzero_at c.args.parts.now c.args.members.now c.loop-position.position (record { column = 0; weight = pos 0 }) c.loop-position-test.true (c.if-is_nonzero.ensures.0 refl) (zeros c.loop-position.position c.loop-position.auto.position)),
)

pub loop-position-preserved : goal.loop-position-preserved
loop-position-preserved c =
    zeros_more c.args.parts.now c.args.members.now c.loop-position.position (record { column = 0; weight = pos 0 }) c.loop-position-test.true c.args.start c.loop-position.invariant (λ h. false≢true (c.if-is_nonzero.ensures.1 h))
