use Rattle.std.proofs.Common.{◌≡◌, ◌+◌, ◌*◌, ◌-◌, ◌≤◌, None, length}
use Rattle.um_duality.specs.Relaxed.{deck_frame}
use Rattle.um_lp.specs.Relaxations.{frame_of}
use Rattle.um_relax.specs.Relaxations.{IsRelaxationOf}
use Rattle.um_loop.specs.Checkables.{AreCheckable}
use Rattle.um_loop.specs.Goings.{IsGoing}
use Rattle.um_loop.proofs.search.Search.run.Given as goal

abbrev pub ghost-solve_next : goal.ghost-solve_next
ghost-solve_next g a = g.began

abbrev pub invariant-nodes : goal.invariant-nodes
invariant-nodes g l = record {
  relaxed : IsRelaxationOf l.deck l.relaxation;
  frame : frame_of l.relaxation ≡ deck_frame l.deck;
  going : IsGoing l.deck g.began.start g.began.most None l.self (g.B.Board.state l.board) l.left;
  within : l.self.solved ≤ l.fn.nodes;
  checkable : AreCheckable l.deck l.self.growth;
}

abbrev pub decreases-nodes : goal.decreases-nodes
decreases-nodes g l = 3 * (l.fn.nodes - l.self.solved) + length l.self.open
