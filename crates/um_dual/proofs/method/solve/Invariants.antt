use Rattle.std.proofs.Common.{◌-◌, ◌≤◌}
use Rattle.um_lp.specs.DualSteps.{AreSteps, IsDualFeasible}
use Rattle.um_dual.proofs.method.solve.Given as goal

-- the steps so far
abbrev pub invariant-steps : goal.invariant-steps
invariant-steps g l = record {
  falls : l.left ≤ l.initial.left;
  steps : AreSteps (l.initial.left - l.left) (g.B.Board.state l.initial.board) (g.B.Board.state l.board);
  feasible : IsDualFeasible (g.B.Board.state l.board);
  keeps : g.B.Board.Keeps l.initial.board l.board;
}

abbrev pub decreases-steps : goal.decreases-steps
decreases-steps g l = l.left
