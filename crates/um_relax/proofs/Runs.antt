-- What a run on a board keeps.
use Rattle.std.proofs.Common.{◌≡◌, ◌∙◌, ℕ, ◌<◌, zero, suc, ap, subst}
use Rattle.std.specs.Prelude.{ℤ, List, [], Option, None, slice_index_or}
use Rattle.um_model.specs.Values.{DeckValue}
use Rattle.um_model.specs.Boxes.{BoxValue}
use Rattle.um_lp.specs.States.{State, Frame, width}
use Rattle.um_lp.specs.Boards.{SameRows, IsBoard}
use Rattle.um_lp.specs.DualSteps.{AreSteps, IsDualFeasible}
use Rattle.um_duality.specs.Boxed.{IsBoxed}
use Rattle.um_duality.specs.Laws.{IsOnBox}
use Rattle.um_duality.specs.Relaxed.{StandsFor}
use Rattle.um_relax.specs.Reboxings.{AreReboxed, BoxedWhole}
use Rattle.um_relax.specs.Runs.{IsReady, IsRun, SameCostsLaw}

same_twice : (s m t : State) → SameRows s m → SameRows m t → SameRows s t
same_twice s m t a b = record { frame = b.frame ∙ a.frame; placed = b.placed ∙ a.placed; costs = b.costs ∙ a.costs }

same_self : (s t : State) → t ≡ s → SameRows s t
same_self s t e = record { frame = ap (λ (x : State). x.frame) e; placed = ap (λ (x : State). x.placed) e; costs = ap (λ (x : State). x.costs) e }

-- new ends leave rows and costs
reboxed_same : (d : DeckValue) (b : BoxValue) (n : ℕ) (s t : State) → AreReboxed d b n s t → SameRows s t
reboxed_same d b zero s t e = same_self s t e
reboxed_same d b (suc n) s t (m, before, act) = same_twice s m t (reboxed_same d b n s m before) act.same

-- and so do steps
steps_same : (n : ℕ) (s t : State) → AreSteps n s t → SameRows s t
steps_same zero s t e = same_self s t e
steps_same (suc n) s t (m, before, step) = same_twice s m t (steps_same n s m before) step.pivot.same

-- which leave the ends, too
steps_ends : (n : ℕ) (s t : State) → AreSteps n s t → t.ends ≡ s.ends
steps_ends zero s t e = ap (λ (x : State). x.ends) e
steps_ends (suc n) s t (m, before, step) = step.pivot.ends ∙ steps_ends n s m before

-- a board whose ends are those of a box has them after steps
steps_boxed : (d : DeckValue) (b : BoxValue) (n : ℕ) (s t : State) → AreSteps n s t → IsBoxed d b s → IsBoxed d b t
steps_boxed d b n s t steps boxed = λ column inside.
    let same = steps_same n s t steps in
    let at : column < width s.frame = subst (λ (f : Frame). column < width f) same.frame inside in
    ap (λ (xs : List (Option ℤ × Option ℤ)). slice_index_or xs column (None, None)) (steps_ends n s t steps) ∙ boxed column at

stands_after : (d : DeckValue) (s t : State) → StandsFor d s → SameRows s t → StandsFor d t
stands_after d s t h k = record { frame = k.frame ∙ h.frame; placed = k.placed ∙ h.placed }

-- a board that stands for the deck does so with new ends
pub reboxed_stands : (d : DeckValue) (b : BoxValue) (n : ℕ) (s t : State) → StandsFor d s → AreReboxed d b n s t → StandsFor d t
reboxed_stands d b n s t h ends = stands_after d s t h (reboxed_same d b n s t ends)

-- and after steps
pub steps_stand : (d : DeckValue) (n : ℕ) (s t : State) → StandsFor d s → AreSteps n s t → StandsFor d t
steps_stand d n s t h steps = stands_after d s t h (steps_same n s t steps)

-- neither changes the costs that the board takes
pub same-costs-law : SameCostsLaw
same-costs-law d b before pivots s run = (steps_same pivots run.ready s run.steps).costs ∙ (reboxed_same d b (width before.frame) before run.ready run.is_ready.ends).costs

-- the board stands for the deck all along
pub run_stands : (d : DeckValue) (b : BoxValue) (before : State) (pivots : ℕ) (s : State) → StandsFor d before → IsRun d b before pivots s → StandsFor d s
run_stands d b before pivots s h run = steps_stand d pivots run.ready s (reboxed_stands d b (width before.frame) before run.ready h run.is_ready.ends) run.steps

-- a run ends on the box
pub on_box : (d : DeckValue) (b : BoxValue) (before : State) (pivots : ℕ) (s : State) → d.arcs ≡ [] → StandsFor d before → IsRun d b before pivots s → IsOnBox d b s
on_box d b before pivots s no_arcs h run = record { arcs = no_arcs; board = run.board; stands = run_stands d b before pivots s h run; boxed = run.on; feasible = run.feasible }

-- the ends of the box were put on the board
pub ready_of : (d : DeckValue) (b : BoxValue) (before s : State) → BoxedWhole d b before s → IsReady d b before s
ready_of d b before s h = record { ends = h.done; on = h.boxed; feasible = h.feasible }

-- and steps taken
pub run_of : (d : DeckValue) (b : BoxValue) (before : State) (pivots : ℕ) (ready s : State) → IsReady d b before ready → AreSteps pivots ready s → IsBoard s → IsDualFeasible s → IsRun d b before pivots s
run_of d b before pivots ready s h steps board feasible = record {
  ready = ready;
  is_ready = h;
  steps = steps;
  board = board;
  on = steps_boxed d b pivots ready s steps h.on;
  feasible = feasible;
}
