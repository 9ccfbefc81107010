use Rattle.std.proofs.Common.{take}
use Rattle.um_bound.specs.RowPrices.{AreRowPrices}
use Rattle.um_bound.proofs.row_prices.row_prices.Given as goal

abbrev pub invariant-loop-price : goal.invariant-loop-price
invariant-loop-price l = AreRowPrices (take l.price-index l.prices) l.by_row
