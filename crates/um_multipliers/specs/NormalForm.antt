-- Which rows multipliers name, and in what order.
use Rattle.std.specs.Prelude.{◌≢◌, ℕ, ◌<◌, pos, List, All, AllPairs}
use Rattle.um_multipliers.specs.declared.multipliers.Price.{Price}

-- the rows are rows of a deck that has this many, and rise
pub record HasRisingRows (rows : ℕ) (prices : List Price) : Type 0 where
  pub within : All (λ (p : Price). p.row < rows) prices
  pub rise : AllPairs (λ (a : Price) (b : Price). a.row < b.row) prices

-- normal form: the rows rise, and no row is named with 0
pub record IsNormal (prices : List Price) : Type 0 where
  pub rise : AllPairs (λ (a : Price) (b : Price). a.row < b.row) prices
  pub nonzero : All (λ (p : Price). p.value ≢ pos 0) prices
