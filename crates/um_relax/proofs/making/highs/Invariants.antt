use Rattle.std.proofs.Common.{◌≡◌, ◌++◌, take, map}
use Rattle.um_model.specs.declared.deck.Column.{Column}
use Rattle.um_model.specs.declared.deck.Row.{Row}
use Rattle.um_duality.specs.Relaxed.{side_end}
use Rattle.um_relax.proofs.making.highs.Given as goal

abbrev pub invariant-loop-column : goal.invariant-loop-column
invariant-loop-column l = l.highs.items ≡ map (λ (c : Column). c.high) (take l.column-index l.columns)

abbrev pub invariant-loop-row : goal.invariant-loop-row
invariant-loop-row l = l.highs.items ≡ map (λ (c : Column). c.high) l.columns ++ map (λ (row : Row). side_end row.high) (take l.row-index l.rows)
