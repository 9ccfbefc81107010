use Rattle.um_text.proofs.Puts.{on_ok}
use Rattle.um_make.proofs.Parts.{integer_put}
use Rattle.um_make.proofs.columns.put_column.Goals as goal

pub returns-in_ok-put_numbers-in-Integer : goal.returns-in_ok-put_numbers-in-Integer
returns-in_ok-put_numbers-in-Integer c =
    on_ok c.put_marker-in-Integer.result c.put_marker-in-Integer.ensures
    (λ e. integer_put c.args.deck.now c.args.column.now _ _ _ _ c.in-Integer.is c.in_ok-put_marker-in-Integer.ensures c.in_ok-put_numbers-in-Integer.ensures e)
