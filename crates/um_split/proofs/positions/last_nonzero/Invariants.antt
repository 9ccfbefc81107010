use Rattle.std.proofs.Common.{◌≡◌, ℕ, ◌<◌, ◌≤◌, pos, length}
use Rattle.um_model.specs.Feasible.{part, IsNonzeroAt}
use Rattle.um_point.specs.MemberParts.{parts_of}
use Rattle.um_split.proofs.positions.last_nonzero.Given as goal

abbrev pub invariant-loop-position : goal.invariant-loop-position
invariant-loop-position l = record {
  nonzero : IsNonzeroAt (parts_of l.parts l.members) l.last;
  behind : (k : ℕ) → l.last < k → k < l.position → part (parts_of l.parts l.members) k ≡ pos 0;
  order : l.fn.first ≤ l.last;
  inside : l.last < length l.members;
}
