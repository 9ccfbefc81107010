use Rattle.std.proofs.Common.{pos, arith}
use Rattle.std.proofs.lemmas.Bool.{false≢true}
use Rattle.um_point.proofs.SetRules.{zeros_more}
use Rattle.um_split.proofs.positions.first_nonzero.Goals as goal

pub loop-position-preserved : goal.loop-position-preserved
loop-position-preserved c = λ k within.
    zeros_more c.args.parts.now c.args.members.now c.loop-position.position (record { column = 0; weight = pos 0 }) (omega (arith, c.requires.inside, c.loop-position-test.true)) 0
    (λ n s q. c.loop-position.invariant n q) (λ h. false≢true (c.if-is_nonzero.ensures.1 h)) k (omega arith) within
