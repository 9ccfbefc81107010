use Rattle.um_point.specs.RowSums.{AreSums}
use Rattle.um_point.proofs.EntrySums.{columns_give}
use Rattle.um_point.proofs.row_sums.entry_sums.Given as goal

abbrev pub invariant-loop-index : goal.invariant-loop-index
invariant-loop-index l = AreSums (columns_give l.columns l.point.parts.items l.point.den l.index) l.sums
