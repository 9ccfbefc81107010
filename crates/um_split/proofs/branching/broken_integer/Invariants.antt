use Rattle.std.proofs.Common.{ℕ, ◌<◌, get_or}
use Rattle.um_model.specs.Values.{ColumnValue, plain_point}
use Rattle.um_model.specs.Feasible.{IntegerHolds}
use Rattle.um_split.proofs.branching.broken_integer.Given as goal

abbrev pub invariant-loop-column : goal.invariant-loop-column
invariant-loop-column l = (k : ℕ) (d : ColumnValue) → k < l.column → IntegerHolds (plain_point l.point) k (get_or l.deck.columns k d)
