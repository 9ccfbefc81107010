use Rattle.std.proofs.Common.{ℕ, ◌<◌, get_or}
use Rattle.um_model.specs.declared.deck.Row.{Row}
use Rattle.um_check.specs.RayParts.{RowIsFree}
use Rattle.um_check.proofs.rays.are_rows_free.Given as goal

abbrev pub invariant-loop-row : goal.invariant-loop-row
invariant-loop-row l = (k : ℕ) (d : Row) → k < l.row → RowIsFree l.deck l.ray k (get_or l.deck.rows k d)
