use Rattle.std.proofs.Common.{◌≡◌, take, drop, map}
use Rattle.std.specs.List.{list_any}
use Rattle.um_made.specs.Views.{set_said}
use Rattle.um_made.specs.Parts.{said}
use Rattle.um_made.proofs.SetSteps.{weighted_member, is_large_member}
use Rattle.um_made.proofs.told.Told.weighted.Given as goal

abbrev pub invariant-loop-member : goal.invariant-loop-member
invariant-loop-member l = record {
  made : l.members.items ≡ map (weighted_member (said l.self) (set_said l.set)) (take l.member-index l.set.1.members.items);
  large : list_any (is_large_member (said l.self) (set_said l.set)) (drop l.member-index l.set.1.members.items) ≡ list_any (is_large_member (said l.self) (set_said l.set)) l.set.1.members.items;
}
