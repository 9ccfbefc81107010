use Rattle.um_make.proofs.Places.{entries_known}
use Rattle.um_make.proofs.columns.put_columns.Goals as goal

pub put_each_column-requires : goal.put_each_column-requires
put_each_column-requires c = entries_known c.args.deck.now c.columns.result.now c.known.ensures.formed c.columns.ensures
