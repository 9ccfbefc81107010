use Rattle.std.proofs.Common.{◌-◌, ◌*◌, ◌^◌, pos, unsigned_abs, arith}
use Rattle.std.specs.Prelude.{None}
use Rattle.um_model.specs.declared.deck.Arc.{Arc}
use Rattle.um_deck.proofs.BoundedSums.{sum_step}
use Rattle.um_deck.proofs.tolerance.size_sum.Goals as goal

pub loop-arc-preserved : goal.loop-arc-preserved
loop-arc-preserved c =
    sum_step (λ (a : Arc). pos (unsigned_abs a.value * 10 ^ (6 - c.args.scale))) c.args.arcs.now 4096 (2 ^ 44) (omega arith) c.requires.few
    c.loop-arc.arc-index (record { row = None; column = 0; value = pos 0 }) _ c.arc_size-sum.result c.loop-arc-test.true c.loop-arc.invariant c.arc_size-sum.ensures.value c.arc_size-sum.ensures.size
