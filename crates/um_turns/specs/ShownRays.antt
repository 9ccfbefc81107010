-- The ray of a search: which one the start problem has shown.
use Rattle.std.specs.Prelude.{ℕ, ◌≤◌, ℤ, List}
use Rattle.um_model.specs.Values.{DeckValue}
use Rattle.um_lp.specs.States.{State}
use Rattle.um_opening.specs.Openings.{ShowsRay}

-- the start problem on the board that starts has shown this ray, within so many pivots
pub record HasShown (d : DeckValue) (start : State) (most : ℕ) (ray : List ℤ) : Type 0 where
  pub pivots : ℕ
  pub within : pivots ≤ most
  pub shows : ShowsRay d start pivots ray
