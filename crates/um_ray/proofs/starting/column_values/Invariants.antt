use Rattle.std.proofs.Common.{◌≡◌, take}
use Rattle.um_ray.proofs.starting.column_values.Given as goal

abbrev pub invariant-loop-column : goal.invariant-loop-column
invariant-loop-column g l = l.values.items ≡ take l.column (g.B.Board.state l.board).values
