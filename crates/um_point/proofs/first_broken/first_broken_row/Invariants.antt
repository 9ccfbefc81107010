use Rattle.std.proofs.Common.{ℕ, ◌<◌, get_or}
use Rattle.um_model.specs.Values.{plain_point}
use Rattle.um_model.specs.Feasible.{RowHolds}
use Rattle.um_model.specs.declared.deck.Row.{Row}
use Rattle.um_point.proofs.first_broken.first_broken_row.Given as goal

abbrev pub invariant-loop-row : goal.invariant-loop-row
invariant-loop-row l = (k : ℕ) (d : Row) → k < l.row → RowHolds l.deck (plain_point l.point) k (get_or l.deck.rows k d)
