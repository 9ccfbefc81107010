use Rattle.std.proofs.Common.{ℕ, ℤ, ◌<◌, ◌^◌, unsigned_abs, get_or}
use Rattle.um_check.proofs.point.are_below_ray.Given as goal

abbrev pub invariant-loop-part : goal.invariant-loop-part
invariant-loop-part l = (k : ℕ) (d : ℤ) → k < l.part-index → unsigned_abs (get_or l.parts k d) < 2 ^ 62
