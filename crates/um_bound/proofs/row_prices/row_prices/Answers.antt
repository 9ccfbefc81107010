use Rattle.std.proofs.Common.{◌^◌, ◌<◌, ℕ, pos, get_or, arith, unsigned_abs, subst, List}
use Rattle.std.proofs.lemmas.List.{take_all, length-replicate, get_or-replicate}
use Rattle.std.proofs.lemmas.List.Elements.{All-replicate}
use Rattle.um_multipliers.specs.declared.multipliers.Price.{Price}
use Rattle.um_bound.specs.RowPrices.{AreRowPrices}
use Rattle.um_bound.proofs.MachineSteps.{held_is}
use Rattle.um_bound.proofs.PricesByRow.{laid_out}
use Rattle.um_bound.proofs.row_prices.row_prices.Goals as goal

pub loop-price-init : goal.loop-price-init
loop-price-init c = record {
  long = length-replicate 512 (pos 0);
  each = λ row l. get_or-replicate 512 row (pos 0) (pos 0) l;
  sizes = All-replicate (λ z. unsigned_abs z < 2 ^ 40) 512 (pos 0) (omega arith);
}

pub bounds-by_row-price : goal.bounds-by_row-price
bounds-by_row-price c = omega (arith, c.loop-price.invariant.long, c.requires.inside c.loop-price.price-index (record { row = 0; value = pos 0 }) c.loop-price-test.true)

pub loop-price-preserved : goal.loop-price-preserved
loop-price-preserved c =
    let none : Price = record { row = 0; value = pos 0 } in
    let i : ℕ = c.loop-price.price-index in
    let small : unsigned_abs (get_or c.args.prices.now i none).value < 2 ^ 40 = c.requires.sizes i none c.loop-price-test.true in
    rw (held_is (get_or c.args.prices.now i none).value (omega (arith, small)))
    (laid_out c.args.prices.now i none c.loop-price.by_row c.loop-price-test.true c.requires.sizes c.requires.inside c.requires.rise c.loop-price.invariant)

pub returns : goal.returns
returns c = subst (λ (ps : List Price). AreRowPrices ps c.loop-price.by_row) (take_all c.loop-price.price-index c.args.prices.now c.loop-price-test.false) c.loop-price.invariant
