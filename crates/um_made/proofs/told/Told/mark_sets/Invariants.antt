use Rattle.std.proofs.Common.{nat_eq, take, map}
use Rattle.std.specs.List.{list_any}
use Rattle.um_statements.specs.declared.parts.MemberPart.{MemberPart}
use Rattle.um_statements.specs.Said.{SetSaid}
use Rattle.um_made.specs.Views.{set_said}
use Rattle.um_made.specs.ColumnWords.{Marked}
use Rattle.um_made.proofs.told.Told.mark_sets.Given as goal

abbrev pub invariant-loop-set : goal.invariant-loop-set
invariant-loop-set l = Marked (λ j. list_any (λ (s : SetSaid). list_any (λ (m : MemberPart). nat_eq m.column j) s.members) (map set_said (take l.set-index l.self.sets.items))) l.fn.marks l.marks
