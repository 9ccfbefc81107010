use Rattle.std.proofs.Common.{◌≡◌, length}
use Rattle.um_tableau.specs.Rows.{AreLong}
use Rattle.um_tableau.proofs.making.zero_lines.Given as goal

-- the lines so far are there
abbrev pub invariant-loop-row : goal.invariant-loop-row
invariant-loop-row l = record { height : length l.lines.items ≡ l._row; long : AreLong l.width l.lines.items }
