use Rattle.um_tableau.specs.Starts.{AreSystemRows}
use Rattle.um_tableau.proofs.start.system_rows.Given as goal

-- the rows so far are there
abbrev pub invariant-loop-row : goal.invariant-loop-row
invariant-loop-row l = AreSystemRows l.given l.row l.lines.items
