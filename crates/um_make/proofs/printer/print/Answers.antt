use Rattle.std.proofs.Common.{◌∙◌}
use Rattle.um_make.proofs.Parts.{whole_text}
use Rattle.um_make.proofs.printer.print.Goals as goal

pub returns : goal.returns
returns c =
    c.into_bytes.ensures
    ∙ whole_text c.args.deck.now c.new-text.result _ _ _ c.new-text.ensures c.in_ok-put_front.ensures c.in_ok-put_columns.ensures c.in_ok-put_back.ensures
