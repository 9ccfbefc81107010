use Rattle.std.proofs.Common.{◌^◌, take}
use Rattle.um_laws.specs.Sums.{dot}
use Rattle.um_model.specs.declared.deck.Column.{Column}
use Rattle.um_deck.proofs.BoundedSums.{SoFar}
use Rattle.um_check.proofs.rays.cost_sum.Given as goal

abbrev pub invariant-loop-index : goal.invariant-loop-index
invariant-loop-index l = SoFar (dot (λ (c : Column). c.cost) (take l.index l.columns) l.ray) l.index (2 ^ 93) l.sum
