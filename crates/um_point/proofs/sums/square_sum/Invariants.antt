use Rattle.std.proofs.Common.{◌^◌, None, take}
use Rattle.um_laws.specs.Sums.{sum_of}
use Rattle.um_deck.proofs.BoundedSums.{SoFar}
use Rattle.um_point.specs.RowSums.{arc_term}
use Rattle.um_point.proofs.sums.square_sum.Given as goal

abbrev pub invariant-loop-arc : goal.invariant-loop-arc
invariant-loop-arc l = SoFar (sum_of (arc_term None l.parts) (take l.arc-index l.arcs)) l.arc-index (2 ^ 96) l.sum
