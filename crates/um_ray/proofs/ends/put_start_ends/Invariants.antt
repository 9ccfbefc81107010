use Rattle.std.proofs.Common.{ℕ, ◌<◌}
use Rattle.um_model.specs.Boxes.{root}
use Rattle.um_lp.specs.Boards.{AreOrdered}
use Rattle.um_relax.specs.Reboxings.{AreReboxed}
use Rattle.um_duality.specs.Boxed.{ends_on}
use Rattle.um_ray.specs.Directions.{directions}
use Rattle.um_ray.proofs.ends.put_start_ends.Given as goal

abbrev pub invariant-loop-column : goal.invariant-loop-column
invariant-loop-column g l = record {
  done : AreReboxed (directions g.d) (root (directions g.d)) l.column (g.B.Board.state l.initial.board) (g.B.Board.state l.board);
  ordered : (j : ℕ) → j < l.column → AreOrdered (ends_on (directions g.d) (root (directions g.d)) j);
  keeps : g.B.Board.Keeps l.initial.board l.board;
}

abbrev pub ghost-start_ends : goal.ghost-start_ends
ghost-start_ends g a = g.d
