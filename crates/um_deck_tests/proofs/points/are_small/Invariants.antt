use Rattle.std.proofs.Common.{ℕ, ◌<◌, ℤ, get_or}
use Rattle.um_point.specs.SmallPoints.{FitsIn36Bits}
use Rattle.um_deck_tests.proofs.points.are_small.Given as goal

abbrev pub invariant-loop-part : goal.invariant-loop-part
invariant-loop-part l = (k : ℕ) (d : ℤ) → k < l.part-index → FitsIn36Bits (get_or l.parts k d)
