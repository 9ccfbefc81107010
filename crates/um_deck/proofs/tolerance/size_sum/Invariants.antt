use Rattle.std.proofs.Common.{◌-◌, ◌*◌, ◌^◌, pos, unsigned_abs, take}
use Rattle.um_laws.specs.Sums.{sum_of}
use Rattle.um_model.specs.declared.deck.Arc.{Arc}
use Rattle.um_deck.proofs.BoundedSums.{SoFar}
use Rattle.um_deck.proofs.tolerance.size_sum.Given as goal

abbrev pub invariant-loop-arc : goal.invariant-loop-arc
invariant-loop-arc l = SoFar (sum_of (λ (a : Arc). pos (unsigned_abs a.value * 10 ^ (6 - l.scale))) (take l.arc-index l.arcs)) l.arc-index (2 ^ 44) l.sum
