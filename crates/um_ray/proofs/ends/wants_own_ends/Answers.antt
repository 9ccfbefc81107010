use Rattle.um_ray.proofs.ReadEnds.{wanted_more}
use Rattle.um_ray.proofs.ends.wants_own_ends.Goals as goal

pub loop-column-preserved : goal.loop-column-preserved
loop-column-preserved g c =
    wanted_more g.d (g.B.Board.state c.args.board.now) c.loop-column.column c.loop-column.invariant (c.in_ok-wants_own_end.ensures.wants.0 c.if-not-branch.false)
