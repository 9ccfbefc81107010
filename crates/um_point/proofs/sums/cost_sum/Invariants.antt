use Rattle.std.proofs.Common.{◌^◌, take}
use Rattle.um_laws.specs.Sums.{dot}
use Rattle.um_model.specs.declared.deck.Column.{Column}
use Rattle.um_deck.proofs.BoundedSums.{SoFar}
use Rattle.um_point.proofs.sums.cost_sum.Given as goal

abbrev pub invariant-loop-index : goal.invariant-loop-index
invariant-loop-index l = SoFar (dot (λ (c : Column). c.cost) (take l.index l.columns) l.parts) l.index (2 ^ 67) l.sum
