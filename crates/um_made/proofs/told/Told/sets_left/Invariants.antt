use Rattle.std.proofs.Common.{◌≡◌, take, drop, map, flat_map}
use Rattle.um_statements.specs.CallRules.{first_fault}
use Rattle.um_statements.specs.DeckRules.{set_rules}
use Rattle.um_made.specs.Views.{set_said}
use Rattle.um_made.specs.Parts.{said}
use Rattle.um_made.specs.SetWords.{AreMembersOf}
use Rattle.um_made.proofs.told.Told.sets_left.Given as goal

-- what is made, and what is left to make, are all; the fault of what is left is that of all
abbrev pub invariant-loop-set : goal.invariant-loop-set
invariant-loop-set l = record {
  made : AreMembersOf (said l.self) (map set_said (take l.set-index l.self.sets.items)) l.left.items;
  fault : first_fault (flat_map (set_rules (said l.self)) (map set_said (drop l.set-index l.self.sets.items))) ≡ first_fault (flat_map (set_rules (said l.self)) (said l.self).sets);
}
