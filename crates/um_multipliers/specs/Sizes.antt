-- How large multipliers are.
use Rattle.std.specs.Prelude.{ℕ, ◌<◌, unsigned_abs, All}
use Rattle.um_multipliers.specs.PlainMultipliers.{MultipliersValue}
use Rattle.um_multipliers.specs.declared.multipliers.Price.{Price}

-- all numbers of the multipliers are below this limit in size
pub record AreBelow (limit : ℕ) (y : MultipliersValue) : Type 0 where
  pub y0 : unsigned_abs y.y0 < limit
  pub rows : All (λ (p : Price). unsigned_abs p.value < limit) y.rows
