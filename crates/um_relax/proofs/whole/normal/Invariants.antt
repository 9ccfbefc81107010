use Rattle.std.proofs.Common.{◌≡◌, take}
use Rattle.um_duality.specs.WholeMultiples.{prices_from}
use Rattle.um_relax.proofs.whole.normal.Given as goal

abbrev pub invariant-loop-row : goal.invariant-loop-row
invariant-loop-row l = l.rows.items ≡ prices_from 0 (take l.row l.numbers)
