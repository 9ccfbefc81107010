use Rattle.std.proofs.Common.{◌≡◌, take, map}
use Rattle.um_duality.specs.Readings.{natural}
use Rattle.um_relax.proofs.point.natural_values.Given as goal

abbrev pub invariant-loop-column : goal.invariant-loop-column
invariant-loop-column g l = l.values.items ≡ map natural (take l.column (g.B.Board.state l.board).values)
