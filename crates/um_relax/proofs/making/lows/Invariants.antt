use Rattle.std.proofs.Common.{◌≡◌, ◌++◌, take, map}
use Rattle.um_model.specs.declared.deck.Column.{Column}
use Rattle.um_model.specs.declared.deck.Row.{Row}
use Rattle.um_duality.specs.Relaxed.{side_end}
use Rattle.um_relax.proofs.making.lows.Given as goal

abbrev pub invariant-loop-column : goal.invariant-loop-column
invariant-loop-column l = l.lows.items ≡ map (λ (c : Column). c.low) (take l.column-index l.columns)

abbrev pub invariant-loop-row : goal.invariant-loop-row
invariant-loop-row l = l.lows.items ≡ map (λ (c : Column). c.low) l.columns ++ map (λ (row : Row). side_end row.low) (take l.row-index l.rows)
