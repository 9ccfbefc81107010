use Rattle.std.proofs.Common.{refl, inr, ◌≡◌, []}
use Rattle.um_treetext.proofs.WantOfMemory.{hands_on}
use Rattle.um_treetext.proofs.PriceWords.{behind_all, behind_err, behind_next, price_fails, shorter, word_fails}
use Rattle.um_treetext.proofs.reading.nodes.read_prices.Goals as goal

pub returns-in_err-word-clause-prices : goal.returns-in_err-word-clause-prices
returns-in_err-word-clause-prices c =
    let some : (c.prices.words ≡ []) → ⊥ = λ over. absurd (let bad = c.prices-test.ensures.1 over in cc) in
    let fails = word_fails c.args.rows c.prices.next c.prices.words c.in_err-word.field-0.0 some c.in_err-word.ensures in
    hands_on _ c.in_err-word.field-0.0 _ _ c.from_residual.ensures.1 (inr (behind_err _ _ c.prices.prices.items _ c.prices.invariant fails))

pub returns-in_err-price-clause-prices : goal.returns-in_err-price-clause-prices
returns-in_err-price-clause-prices c =
    let fails = price_fails c.args.rows c.prices.next c.prices.words c.in_ok-word.field-0.now c.word.new.self c.in_err-price.field-0.0 c.in_ok-word.ensures c.in_err-price.ensures in
    hands_on _ c.in_err-price.field-0.0 _ _ c.from_residual-in_err-price.ensures.1 (inr (behind_err _ _ c.prices.prices.items _ c.prices.invariant fails))

pub prices-smaller : goal.prices-smaller
prices-smaller c = shorter c.prices.words c.in_ok-word.field-0.now c.word.new.self c.in_ok-word.ensures

pub prices-preserved : goal.prices-preserved
prices-preserved c = rw (c.from-next.ensures, c.in_ok-push.ensures.ok) (behind_next _ c.prices.prices.items c.args.rows c.prices.next c.prices.words c.in_ok-word.field-0.now c.word.new.self c.in_ok-price.price c.prices.invariant c.in_ok-word.ensures c.in_ok-price.ensures)

pub returns-clause-prices : goal.returns-clause-prices
returns-clause-prices c = behind_all _ c.prices.prices.items c.args.rows c.prices.next c.prices.words c.prices.invariant (c.prices-test.ensures.0 refl)
