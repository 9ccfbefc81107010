use Rattle.std.proofs.Common.{◌<◌, ◌++◌, ◌∷◌, [], List, length, get_or, take, ap, ◌∙◌}
use Rattle.std.proofs.lemmas.List.{take_more, get_or_default}
use Rattle.um_num.specs.Listed.{Listed}
use Rattle.um_num.specs.declared.decimal.Decimal.{Decimal}
use Rattle.um_statements.specs.declared.parts.EntryPart.{EntryPart}
use Rattle.um_made.specs.declared.numbers.RowNumbers.{RowNumbers}
use Rattle.um_made.proofs.RowNumberFacts.{no_entry, puts_entry, entry_fresh}
use Rattle.um_made.proofs.numbers.put_entries.Goals as goal

pub loop-entry-preserved : goal.loop-entry-preserved
loop-entry-preserved c =
    let es : List EntryPart = c.args.entries.now in
    let e : EntryPart = get_or es c.loop-entry.entry-index no_entry in
    let now : List RowNumbers = c.loop-entry.rows.items in
    let within : e.row < length c.args.rows.now.items = c.requires.within c.loop-entry.entry-index no_entry c.loop-entry-test.true in
    let inner : e.row < length now = rw c.loop-entry.invariant.count_stays within in
    rw (take_more es c.loop-entry.entry-index no_entry c.loop-entry-test.true)
    (puts_entry (take c.loop-entry.entry-index es) e c.args.rows.now.items now _ (entry_fresh es c.loop-entry.entry-index no_entry c.loop-entry-test.true c.requires.distinct) within c.loop-entry.invariant
    (λ d. ap (λ (l : Listed Decimal). l.items) c.in_ok-push.ensures.ok ∙ ap (λ (r : RowNumbers). r.coefficients.items ++ e.value ∷ []) (c.at_mut.ensures.value ∙ get_or_default now e.row _ d inner))
    (λ d. ap (λ (r : RowNumbers). r.arcs.items) (c.at_mut.ensures.value ∙ get_or_default now e.row _ d inner)))
