use Rattle.um_dual.specs.Choices.{LeavesBelow}
use Rattle.um_dual.proofs.leaving_row.leaving.Given as goal

-- what leaves of the rows so far
abbrev pub invariant-loop-row : goal.invariant-loop-row
invariant-loop-row g l = LeavesBelow (g.B.Board.state l.board) l.row l.first
