use Rattle.std.proofs.Common.{nat_eq, take, ◌&&◌, not}
use Rattle.std.specs.List.{list_any}
use Rattle.um_statements.specs.declared.parts.ArcPart.{ArcPart}
use Rattle.um_statements.specs.CallRules.{is_zero}
use Rattle.um_made.specs.ColumnWords.{Marked}
use Rattle.um_made.proofs.told.Told.mark_arcs.Given as goal

abbrev pub invariant-loop-arc : goal.invariant-loop-arc
invariant-loop-arc l = Marked (λ j. list_any (λ (a : ArcPart). nat_eq a.column j && not (is_zero a.value)) (take l.arc-index l.self.arcs.items)) l.fn.marks l.marks
