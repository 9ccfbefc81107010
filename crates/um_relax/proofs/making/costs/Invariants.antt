use Rattle.std.proofs.Common.{◌≡◌, take, map}
use Rattle.um_model.specs.declared.deck.Column.{Column}
use Rattle.um_relax.proofs.making.costs.Given as goal

abbrev pub invariant-loop-column : goal.invariant-loop-column
invariant-loop-column l = l.costs.items ≡ map (λ (c : Column). c.cost) (take l.column-index l.columns)
