use Rattle.um_dual.specs.Choices.{EntersBelow}
use Rattle.um_dual.proofs.entering_column.entering.Given as goal

-- what enters of the columns so far
abbrev pub invariant-loop-column : goal.invariant-loop-column
invariant-loop-column g l = EntersBelow (g.B.Board.state l.board) l.row l.to l.column l.first
