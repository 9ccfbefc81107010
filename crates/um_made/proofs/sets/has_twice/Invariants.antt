use Rattle.std.proofs.Common.{◌≡◌, drop, None}
use Rattle.um_made.specs.SetWords.{has_twice_behind}
use Rattle.um_made.proofs.sets.has_twice.Given as goal

-- what is found in what is left is found in all
abbrev pub invariant-loop-member : goal.invariant-loop-member
invariant-loop-member l = has_twice_behind l.last (drop l.member-index l.members) ≡ has_twice_behind None l.members
