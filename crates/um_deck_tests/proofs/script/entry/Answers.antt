use Rattle.um_deck_tests.proofs.SomeColumn.{column_kept}
use Rattle.um_deck_tests.proofs.script.entry.Goals as goal

pub returns : goal.returns
returns c = column_kept _ _ _ _ _ c.entry.ensures c.requires
