use Rattle.um_point.specs.RowSums.{AreSums}
use Rattle.um_check.proofs.RaySums.{columns_give}
use Rattle.um_check.proofs.rays.linear_sums.Given as goal

abbrev pub invariant-loop-index : goal.invariant-loop-index
invariant-loop-index l = AreSums (columns_give l.columns l.ray l.index) l.sums
