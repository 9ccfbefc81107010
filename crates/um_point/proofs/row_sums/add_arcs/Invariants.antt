use Rattle.std.proofs.Common.{Some, take}
use Rattle.um_laws.specs.Sums.{sum_of}
use Rattle.um_point.specs.RowSums.{HaveGrown, arc_term}
use Rattle.um_point.proofs.row_sums.add_arcs.Given as goal

abbrev pub invariant-loop-arc : goal.invariant-loop-arc
invariant-loop-arc l = HaveGrown (λ row. sum_of (arc_term (Some row) l.parts) (take l.arc-index l.arcs)) l.fn.sums l.sums
