use Rattle.std.proofs.Common.{◌≡◌, take, map, false}
use Rattle.um_model.specs.declared.deck.Row.{Row}
use Rattle.um_relax.proofs.making.straight_rows.Given as goal

abbrev pub invariant-loop-row : goal.invariant-loop-row
invariant-loop-row l = l.bent.items ≡ map (λ (row : Row). false) (take l._row-index l.rows)
