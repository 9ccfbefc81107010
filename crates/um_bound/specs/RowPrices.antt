-- The multipliers of all rows, laid out by row in one list.
use Rattle.std.specs.Prelude.{◌≡◌, ℕ, ◌<◌, ◌==◌, ℤ, pos, unsigned_abs, List, length, All, if◌then◌else◌}
use Rattle.um_laws.specs.Sums.{sum_of}
use Rattle.um_model.specs.Feasible.{part}
use Rattle.um_model.specs.declared.limits.TheConstants.{MOST_ROWS, MULTIPLIER_SIZE}
use Rattle.um_multipliers.specs.declared.multipliers.Price.{Price}

-- the multiplier of a row, and 0 where the row has none
abbrev pub price_of : List Price → ℕ → ℤ
price_of prices row = sum_of (λ (p : Price). if p.row == row then p.value else pos 0) prices

-- a multiplier for each row that a deck may have, each of them below 2^40 in size
pub record AreRowPrices (prices : List Price) (by_row : List ℤ) : Type 0 where
  pub long : length by_row ≡ MOST_ROWS
  pub each : (row : ℕ) → row < MOST_ROWS → part by_row row ≡ price_of prices row
  pub sizes : All (λ value. unsigned_abs value < MULTIPLIER_SIZE) by_row
