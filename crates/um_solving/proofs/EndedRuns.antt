-- How a node ended, from the run that its parts made.
use Rattle.std.proofs.Common.{ℕ, ◌+◌, refl, Result, Ok, Err}
use Rattle.std.specs.Prelude.{IfOk}
use Rattle.um_num.specs.declared.Memory.{Memory}
use Rattle.um_model.specs.Values.{DeckValue}
use Rattle.um_model.specs.Boxes.{BoxValue}
use Rattle.um_lp.specs.States.{State}
use Rattle.um_lp.specs.Boards.{IsBoard}
use Rattle.um_lp.specs.DualSteps.{AreSteps, IsDualFeasible}
use Rattle.um_relax.proofs.Runs.{run_of}
use Rattle.um_relax.specs.Runs.{IsReady}
use Rattle.um_solving.specs.Endings.{EndedAs, HasEndedAs}
use Rattle.um_solving.specs.declared.node.NodeEnd.{NodeEnd}

-- what ends by any run of so many pivots ends by this one
pub ended_of : (d : DeckValue) (b : BoxValue) (before : State) (early pivots left number : ℕ) (ready s : State) (result : Result NodeEnd Memory) → IfOk result (λ e. HasEndedAs d b (early + pivots) number e s) → IsReady d b before ready → AreSteps pivots ready s
    → IsBoard s → IsDualFeasible s → IfOk result (λ e. EndedAs d b before early pivots left number e s)
ended_of d b before early pivots left number ready s (Ok e) h is steps board feasible = h before early pivots left refl (run_of d b before pivots ready s is steps board feasible)
ended_of d b before early pivots left number ready s (Err m) h is steps board feasible = tt
