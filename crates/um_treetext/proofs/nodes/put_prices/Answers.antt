use Rattle.std.proofs.Common.{arith, refl, pos, get_or}
use Rattle.um_multipliers.specs.declared.multipliers.Price.{Price}
use Rattle.um_text.proofs.Puts.{next_put, more_words}
use Rattle.um_treetext.specs.TreeText.{price_word}
use Rattle.um_treetext.proofs.nodes.put_prices.Goals as goal

pub loop-price-preserved : goal.loop-price-preserved
loop-price-preserved c =
    let none : Price = record { row = 0; value = pos 0 } in
    let price = get_or c.args.prices.now c.loop-price.price-index none in
    next_put _ _ _ _ _ _ c.loop-price.invariant c.in_ok-put_price.ensures (more_words price_word c.args.prices.now c.loop-price.price-index price none (omega arith) refl)
