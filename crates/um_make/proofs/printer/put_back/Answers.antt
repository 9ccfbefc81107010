use Rattle.um_text.proofs.Puts.{on_ok}
use Rattle.um_make.proofs.Parts.{back_put}
use Rattle.um_make.proofs.printer.put_back.Goals as goal

pub returns : goal.returns
returns c =
    on_ok c.put.result c.put.ensures.ok
    (λ e. back_put c.args.deck.now _ _ _ _ _ _ _ c.in_ok-put_sides.ensures c.in_ok-put_ranges.ensures c.in_ok-put_bounds.ensures c.in_ok-put_sets.ensures c.in_ok-put_arcs.ensures e)
