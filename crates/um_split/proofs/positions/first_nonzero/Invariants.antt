use Rattle.std.proofs.Common.{◌≡◌, ℕ, ◌<◌, pos}
use Rattle.um_model.specs.Feasible.{part}
use Rattle.um_point.specs.MemberParts.{parts_of}
use Rattle.um_split.proofs.positions.first_nonzero.Given as goal

abbrev pub invariant-loop-position : goal.invariant-loop-position
invariant-loop-position l = (k : ℕ) → k < l.position → part (parts_of l.parts l.members) k ≡ pos 0
