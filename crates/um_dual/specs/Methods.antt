-- What a step and a run of steps came to.
use Rattle.std.specs.Prelude.{◌≡◌, ℕ, ◌⊎◌}
use Rattle.um_num.specs.declared.exact.Wide.{Wide}
use Rattle.um_lp.specs.Boards.{IsPivot}
use Rattle.um_lp.specs.Refusals.{IsRefusedAct}
use Rattle.um_lp.specs.States.{State}
use Rattle.um_lp.specs.DualSteps.{Next, Ended as NextEnded, NoPoint as NextNoPoint, Pivot as NextPivot, Leaves, IsNext, IsStep}
use Rattle.um_lp.specs.declared.board.At.{At}
use Rattle.um_dual.specs.Choices.{IsRefusedLeaving, IsRefusedRatio}
use Rattle.um_dual.specs.declared.method.Choice.{Choice}
use Rattle.um_dual.specs.declared.method.Choice.TheVariants.{Ended as ChoiceEnded, NoPoint as ChoiceNoPoint, Pivot as ChoicePivot}
use Rattle.um_dual.specs.declared.method.Stepped.{Stepped}
use Rattle.um_dual.specs.declared.method.Stepped.TheVariants.{Pivoted, Ended as StepEnded, NoPoint as StepNoPoint, Wide as StepWide}
use Rattle.um_dual.specs.declared.method.Ended.{Ended}
use Rattle.um_dual.specs.declared.method.Ended.TheVariants.{Optimal, NoPoint as RunNoPoint, OutOfPivots, Wide as RunWide}

-- what a choice stands for
abbrev pub next_of : Choice → Next
next_of ChoiceEnded = NextEnded
next_of (ChoiceNoPoint row) = NextNoPoint row
next_of (ChoicePivot row column to) = NextPivot row column to

-- a row leaves, and which column enters for it is not known
pub record IsRefusedEntering (s : State) (w : Wide) : Type 0 where
  pub row : ℕ
  pub to : At
  pub leaves : Leaves s row to
  pub refused : IsRefusedRatio s row to w

-- what comes next is not known
abbrev pub IsRefusedNext : State → Wide → Type 0
IsRefusedNext s w = IsRefusedLeaving s w ⊎ IsRefusedEntering s w

-- the pivot that comes next is not done
pub record IsRefusedPivot (s : State) (w : Wide) : Type 0 where
  pub row : ℕ
  pub column : ℕ
  pub to : At
  pub next : IsNext s (NextPivot row column to)
  pub refused : IsRefusedAct s (IsPivot row column to s) w

-- a step is not taken: what comes next is not known, or the pivot that does is not done
abbrev pub IsRefusedStep : State → Wide → Type 0
IsRefusedStep s w = IsRefusedNext s w ⊎ IsRefusedPivot s w

-- a step leads on, or tells why none was taken and leaves the state
abbrev pub IsStepped : State → Stepped → State → Type 0
IsStepped s Pivoted t = IsStep s t
IsStepped s StepEnded t = IsNext s NextEnded × (t ≡ s)
IsStepped s (StepNoPoint row) t = IsNext s (NextNoPoint row) × (t ≡ s)
IsStepped s (StepWide w) t = IsRefusedStep s w × (t ≡ s)

-- a pivot comes next
pub record IsDue (s : State) : Type 0 where
  pub row : ℕ
  pub column : ℕ
  pub to : At
  pub next : IsNext s (NextPivot row column to)

-- a run that has so many pivots left ends in this state: no step is due, or one is and no pivot is left, or one is not taken
abbrev pub HasEnded : State → ℕ → Ended → Type 0
HasEnded t left Optimal = IsNext t NextEnded
HasEnded t left (RunNoPoint row) = IsNext t (NextNoPoint row)
HasEnded t left OutOfPivots = IsDue t × (left ≡ 0)
HasEnded t left (RunWide w) = IsRefusedStep t w
