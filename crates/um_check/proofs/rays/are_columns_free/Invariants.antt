use Rattle.std.proofs.Common.{ℕ, ◌<◌, get_or}
use Rattle.um_model.specs.Values.{ColumnValue}
use Rattle.um_check.specs.RayParts.{ColumnIsFree}
use Rattle.um_check.proofs.rays.are_columns_free.Given as goal

abbrev pub invariant-loop-column : goal.invariant-loop-column
invariant-loop-column l = (k : ℕ) (d : ColumnValue) → k < l.column → ColumnIsFree l.ray k (get_or l.deck.columns k d)
