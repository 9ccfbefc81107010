use Rattle.std.proofs.Common.{◌≡◌, take, drop, length}
use Rattle.um_relax.proofs.row_multipliers.slack_costs.Given as goal

abbrev pub invariant-loop-row : goal.invariant-loop-row
invariant-loop-row g l = l.costs.items ≡ take l.row (drop (length (g.B.Board.state l.board).frame.columns) (g.B.Board.state l.board).reduced)
