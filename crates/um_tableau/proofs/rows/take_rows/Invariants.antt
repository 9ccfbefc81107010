use Rattle.std.proofs.Common.{length}
use Rattle.um_tableau.proofs.RowSteps.{Taken}
use Rattle.um_tableau.proofs.rows.take_rows.Given as goal

-- the rows so far are taken, and the others stand as they were
abbrev pub invariant-loop-i : goal.invariant-loop-i
invariant-loop-i l = Taken (length l.line) l.i l.row l.column l.rows l.out l.initial.rows l.initial.out
