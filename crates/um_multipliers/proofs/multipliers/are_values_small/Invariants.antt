use Rattle.std.proofs.Common.{ℕ, ◌<◌, ◌^◌, unsigned_abs, get_or}
use Rattle.um_multipliers.specs.declared.multipliers.Price.{Price}
use Rattle.um_multipliers.proofs.multipliers.are_values_small.Given as goal

abbrev pub invariant-loop-price : goal.invariant-loop-price
invariant-loop-price l = (k : ℕ) (d : Price) → k < l.price-index → unsigned_abs (get_or l.prices k d).value < 2 ^ 40
