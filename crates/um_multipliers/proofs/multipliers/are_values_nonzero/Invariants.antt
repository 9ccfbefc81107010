use Rattle.std.proofs.Common.{ℕ, ◌<◌, ◌≢◌, pos, get_or}
use Rattle.um_multipliers.specs.declared.multipliers.Price.{Price}
use Rattle.um_multipliers.proofs.multipliers.are_values_nonzero.Given as goal

abbrev pub invariant-loop-price : goal.invariant-loop-price
invariant-loop-price l = (k : ℕ) (d : Price) → k < l.price-index → (get_or l.prices k d).value ≢ pos 0
