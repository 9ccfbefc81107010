use Rattle.std.proofs.Common.{take}
use Rattle.um_made.specs.NumberSteps.{PutsEntries}
use Rattle.um_made.proofs.numbers.put_entries.Given as goal

abbrev pub invariant-loop-entry : goal.invariant-loop-entry
invariant-loop-entry l = PutsEntries (take l.entry-index l.entries) l.fn.rows.items l.rows.items
