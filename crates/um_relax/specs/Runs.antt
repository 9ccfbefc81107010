-- A run of the dual simplex method on a box, from any state of a board.
use Rattle.std.specs.Prelude.{◌≡◌, ℕ}
use Rattle.um_model.specs.Values.{DeckValue}
use Rattle.um_model.specs.Boxes.{BoxValue}
use Rattle.um_lp.specs.States.{State, width}
use Rattle.um_lp.specs.Boards.{IsBoard}
use Rattle.um_lp.specs.DualSteps.{AreSteps, IsDualFeasible}
use Rattle.um_duality.specs.Boxed.{IsBoxed}
use Rattle.um_relax.specs.Reboxings.{AreReboxed}

-- the board got the ends of the box, which leads to this state; it is dual feasible then
pub record IsReady (d : DeckValue) (b : BoxValue) (before s : State) : Type 0 where
  pub ends : AreReboxed d b (width before.frame) before s
  pub on : IsBoxed d b s
  pub feasible : IsDualFeasible s

-- so many steps from there lead to this state; the board is in order, and still has the ends of the box
pub record IsRun (d : DeckValue) (b : BoxValue) (before : State) (pivots : ℕ) (s : State) : Type 0 where
  pub ready : State
  pub is_ready : IsReady d b before ready
  pub steps : AreSteps pivots ready s
  pub board : IsBoard s
  pub on : IsBoxed d b s
  pub feasible : IsDualFeasible s

-- A run leaves the costs that the board takes.
abbrev pub SameCostsLaw : Type 0
SameCostsLaw =
    (d : DeckValue) (b : BoxValue) (before : State) (pivots : ℕ) (s : State)
    → IsRun d b before pivots s → s.costs ≡ before.costs
