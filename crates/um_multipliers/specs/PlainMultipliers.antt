-- Multipliers as plain values, whatever room their lists have.
use Rattle.std.specs.Prelude.{ℤ, List}
use Rattle.um_multipliers.specs.declared.multipliers.Price.{Price}
use Rattle.um_multipliers.specs.declared.multipliers.Multipliers.{Multipliers}

-- what the objective is multiplied by, and what the rows are
pub record MultipliersValue : Type 0 where
  pub y0 : ℤ
  pub rows : List Price

abbrev pub plain_multipliers : Multipliers → MultipliersValue
plain_multipliers y = record { y0 = y.y0; rows = y.rows.items }
