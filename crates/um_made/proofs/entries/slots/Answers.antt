use Rattle.std.proofs.Common.{List, get_or, take}
use Rattle.std.proofs.lemmas.List.{take_more}
use Rattle.um_statements.specs.declared.parts.EntryPart.{EntryPart}
use Rattle.um_made.proofs.RowNumberFacts.{no_entry, one_slot, entry_fresh}
use Rattle.um_made.proofs.entries.slots.Goals as goal

pub loop-entry-preserved : goal.loop-entry-preserved
loop-entry-preserved c =
    let es : List EntryPart = c.args.entries.now in
    let e : EntryPart = get_or es c.loop-entry.entry-index no_entry in
    rw (take_more es c.loop-entry.entry-index no_entry c.loop-entry-test.true)
    (one_slot (take c.loop-entry.entry-index es) e c.args.count c.loop-entry.slots.items (entry_fresh es c.loop-entry.entry-index no_entry c.loop-entry-test.true c.requires.distinct)
    (c.requires.within c.loop-entry.entry-index no_entry c.loop-entry-test.true) c.loop-entry.invariant)
