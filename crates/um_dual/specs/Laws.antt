-- The laws of steps and runs.
use Rattle.std.specs.Prelude.{◌≡◌, ℕ, ◌≤◌, ◌<◌, ◌^◌}
use Rattle.um_lp.specs.Boards.{IsBoard, IsPivot}
use Rattle.um_lp.specs.DualSteps.{Pivot, IsNext, IsDualFeasible, AreSteps}
use Rattle.um_lp.specs.States.{State, width}
use Rattle.um_lp.specs.declared.board.At.{At}
use Rattle.um_dual.specs.Used.{is_used, count_below}

-- A step leads from a dual feasible state to a dual feasible state.
abbrev pub DualFeasibleLaw : Type 0
DualFeasibleLaw =
    (s t : State) (row column : ℕ) (to : At) → IsBoard s → IsDualFeasible s → IsNext s (Pivot row column to) → IsPivot row column to s t → IsDualFeasible t

-- No statuses come twice in a run: after one step or more they are not those of the start. The columns that stand at Basic are the basis, so no basis with its statuses comes twice.
abbrev pub NoReturnLaw : Type 0
NoReturnLaw = (n : ℕ) (s t : State) → 1 ≤ n → AreSteps n s t → IsBoard s → IsDualFeasible s → ¬ (t.at ≡ s.at)

-- A run has fewer steps than there are ways for the columns to stand: each is basic, at one end, or at the other, and one without ends is basic or not.
abbrev pub FewStepsLaw : Type 0
FewStepsLaw = (n : ℕ) (s t : State) → AreSteps n s t → IsBoard s → IsDualFeasible s → n < 3 ^ width s.frame

-- Places without a grid point do not count: they never enter.
abbrev pub FewUsedStepsLaw : Type 0
FewUsedStepsLaw = (n : ℕ) (s t : State) → AreSteps n s t → IsBoard s → IsDualFeasible s → n < 3 ^ count_below (width s.frame) (is_used s)
