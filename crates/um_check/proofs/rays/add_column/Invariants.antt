use Rattle.std.proofs.Common.{◌*ℤ◌, take}
use Rattle.um_laws.specs.Sums.{sum_of}
use Rattle.um_point.specs.RowSums.{HaveGrown}
use Rattle.um_point.proofs.EntrySums.{entry_in}
use Rattle.um_check.proofs.rays.add_column.Given as goal

abbrev pub invariant-loop-entry : goal.invariant-loop-entry
invariant-loop-entry l = HaveGrown (λ row. sum_of (entry_in row) (take l.entry-index l.entry-items) *ℤ l.part) l.fn.sums l.sums
