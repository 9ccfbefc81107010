use Rattle.std.proofs.Common.{ℕ, ◌<◌}
use Rattle.um_lp.specs.Boards.{AreOrdered}
use Rattle.um_relax.specs.Reboxings.{AreReboxed}
use Rattle.um_duality.specs.Boxed.{ends_on}
use Rattle.um_relax.proofs.ends.rebox.Given as goal

abbrev pub invariant-loop-column : goal.invariant-loop-column
invariant-loop-column g l = record {
  done : AreReboxed l.node.deck l.node.limits l.column (g.B.Board.state l.initial.board) (g.B.Board.state l.board);
  ordered : (j : ℕ) → j < l.column → AreOrdered (ends_on l.node.deck l.node.limits j);
  keeps : g.B.Board.Keeps l.initial.board l.board;
}
