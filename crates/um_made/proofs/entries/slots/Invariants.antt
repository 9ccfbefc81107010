use Rattle.std.proofs.Common.{take}
use Rattle.um_made.specs.ColumnWords.{AreSlots}
use Rattle.um_made.proofs.entries.slots.Given as goal

abbrev pub invariant-loop-entry : goal.invariant-loop-entry
invariant-loop-entry l = AreSlots (take l.entry-index l.entries) l.count l.slots.items
