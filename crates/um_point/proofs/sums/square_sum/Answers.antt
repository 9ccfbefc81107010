use Rattle.std.proofs.Common.{◌^◌, None, pos, arith}
use Rattle.um_deck.proofs.BoundedSums.{sum_step}
use Rattle.um_point.specs.RowSums.{arc_term}
use Rattle.um_point.proofs.sums.square_sum.Goals as goal

pub loop-arc-preserved : goal.loop-arc-preserved
loop-arc-preserved c =
    sum_step (arc_term None c.args.parts.now) c.args.arcs.now (2 ^ 22) (2 ^ 96) (omega arith) c.requires.few c.loop-arc.arc-index (record { row = None; column = 0; value = pos 0 }) _ c.objective_term-sum.result
    c.loop-arc-test.true c.loop-arc.invariant c.objective_term-sum.ensures.value c.objective_term-sum.ensures.size
