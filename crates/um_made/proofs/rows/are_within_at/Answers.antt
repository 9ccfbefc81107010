use Rattle.um_made.proofs.RowNumberFacts.{no_number}
use Rattle.um_made.proofs.RowRules.{all_whole}
use Rattle.um_made.proofs.rows.are_within_at.Goals as goal

pub is_within_at-requires-clause-whole : goal.is_within_at-requires-clause-whole
is_within_at-requires-clause-whole c = all_whole c.args.scale c.args.numbers.now c.requires.whole c.loop-number.number-index no_number c.loop-number-test.true
