use Rattle.um_deck_tests.proofs.SomeColumn.{column_begun}
use Rattle.um_deck_tests.proofs.script.begin_column.Goals as goal

pub returns : goal.returns
returns c = column_begun _ _ _ _ _ c.column.ensures
