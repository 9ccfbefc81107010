-- A run of a search ended: nothing waits, it stopped early, or it found a point of a deck with a ray.
use Rattle.std.proofs.Common.{◌≡◌, ℕ, Option, Some, None, subst}
use Rattle.um_model.specs.Values.{DeckValue, plain_point}
use Rattle.um_model.specs.declared.point.Point.{Point}
use Rattle.um_lp.specs.States.{State}
use Rattle.um_loop.specs.declared.search.Search.{Search}
use Rattle.um_loop.specs.declared.search.Halt.{Halt}
use Rattle.um_loop.specs.declared.search.Ending.{Ending}
use Rattle.um_loop.specs.declared.search.Ending.TheVariants as ending
use Rattle.um_loop.specs.Goings.{HasRun}
use Rattle.um_search.specs.declared.budget.Budget.{Budget}
use Rattle.um_search.specs.Endings.{HasRunOut, IsHalted, IsFound}

-- what holds of a deck and a budget holds of those of a task that are the same
module _ (d e : DeckValue) (same : d ≡ e) (b c : Budget) (equal : b ≡ c) where
  pub in_task : (P : DeckValue → Budget → Type 0) → P d b → P e c
  in_task P h = subst (λ (x : DeckValue). P x c) same (subst (P d) equal h)

module _ (d : DeckValue) (start : State) (most nodes : ℕ) (led : Option Ending) (s : Search) (board : State) (left : ℕ) (run : HasRun d start most nodes led s board left) where
  pub over_of : led ≡ None → HasRunOut d most s
  over_of is = record { start = start; board = board; left = left; ran = subst (λ (o : Option Ending). HasRun d start most nodes o s board left) is run }

  pub halted_of : (h : Halt) → led ≡ Some (ending.Halted h) → IsHalted d most nodes s h
  halted_of h is = record { start = start; board = board; left = left; stopped = subst (λ (o : Option Ending). HasRun d start most nodes o s board left) is run }

  pub found_of : (p : Point) → led ≡ Some (ending.Found p) → IsFound d most s (plain_point p)
  found_of p is = record { start = start; found = subst (λ (o : Option Ending). HasRun d start most nodes o s board left) is run }
