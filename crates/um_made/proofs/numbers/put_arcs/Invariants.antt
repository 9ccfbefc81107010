use Rattle.std.proofs.Common.{take}
use Rattle.um_made.specs.NumberSteps.{PutsArcs}
use Rattle.um_made.proofs.numbers.put_arcs.Given as goal

abbrev pub invariant-loop-arc : goal.invariant-loop-arc
invariant-loop-arc l = PutsArcs (take l.arc-index l.arcs) l.fn.rows.items l.rows.items
