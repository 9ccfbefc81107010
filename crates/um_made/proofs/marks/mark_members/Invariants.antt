use Rattle.std.proofs.Common.{nat_eq, take}
use Rattle.std.specs.List.{list_any}
use Rattle.um_statements.specs.declared.parts.MemberPart.{MemberPart}
use Rattle.um_made.specs.ColumnWords.{Marked}
use Rattle.um_made.proofs.marks.mark_members.Given as goal

abbrev pub invariant-loop-member : goal.invariant-loop-member
invariant-loop-member l = Marked (λ j. list_any (λ (m : MemberPart). nat_eq m.column j) (take l.member-index l.members)) l.fn.marks l.marks
