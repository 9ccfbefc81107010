-- How a start ended.
use Rattle.std.specs.Prelude.{◌≡◌, ℕ, ◌<◌, ℤ, pos, ◌<ℤ◌, unsigned_abs, List, All, ◌⊎◌, Result, Ok, Err}
use Rattle.um_laws.specs.Rational.{Rational}
use Rattle.um_num.specs.Listed.{Listed}
use Rattle.um_num.specs.declared.exact.Wide.{Wide}
use Rattle.um_model.specs.Values.{DeckValue}
use Rattle.um_model.specs.Boxes.{root}
use Rattle.um_model.specs.declared.limits.TheConstants.{RAY_SIZE}
use Rattle.um_lp.specs.States.{State}
use Rattle.um_lp.specs.Refusals.{IsRefusedAt}
use Rattle.um_lp.specs.DualSteps.{IsNext, Ended}
use Rattle.um_dual.specs.Methods.{IsDue, IsRefusedStep}
use Rattle.um_relax.specs.Reboxings.{WantsFiniteEnds, StoppedBefore}
use Rattle.um_relax.specs.Runs.{IsRun}
use Rattle.um_ray.specs.Directions.{directions}
use Rattle.um_ray.specs.Rays.{column_values, direction, slope}
use Rattle.um_ray.specs.declared.starting.Started.{Started}
use Rattle.um_ray.specs.declared.starting.Started.TheVariants as started

-- each end of the deck that a reduced cost wants is finite
abbrev pub WantsOwnEnds : DeckValue → State → Type 0
WantsOwnEnds d s = WantsFiniteEnds d (root d) s

-- the board got the ends of the start problem in state s, and so many of its steps led from there to t
abbrev pub IsStartRun : DeckValue → State → ℕ → State → Type 0
IsStartRun d s pivots t = IsRun (directions d) (root (directions d)) s pivots t

-- ---- where no step is due

-- nothing was done, as no cost wants an infinite end
pub record IsReadyAtOnce (d : DeckValue) (s : State) (pivots : ℕ) (t : State) : Type 0 where
  pub wants : WantsOwnEnds d s
  pub same : t ≡ s
  pub no_pivots : pivots ≡ 0

-- some cost wants an infinite end, and the start problem has ended in state t
pub record IsSolved (d : DeckValue) (s : State) (pivots : ℕ) (t : State) : Type 0 where
  pub needed : ¬ WantsOwnEnds d s
  pub run : IsStartRun d s pivots t
  pub ended : IsNext t Ended

-- its least value is 0
pub record IsReadyAfter (d : DeckValue) (s : State) (pivots : ℕ) (t : State) : Type 0 where
  pub solved : IsSolved d s pivots t
  pub level : slope d t ≡ pos 0

-- its least value is below 0
pub record HasRay (d : DeckValue) (s : State) (pivots : ℕ) (t : State) : Type 0 where
  pub solved : IsSolved d s pivots t
  pub falls : slope d t <ℤ pos 0

-- numbers of a ray are below 2^62 in size
abbrev pub AreRayNumbers : List ℤ → Type 0
AreRayNumbers parts = All (λ (z : ℤ). unsigned_abs z < RAY_SIZE) parts

-- the values of the columns of this state are read, or one is refused
abbrev pub IsRead : State → Result (Listed Rational) Wide → Type 0
IsRead s (Ok values) = values.items ≡ column_values s
IsRead s (Err w) = IsRefusedAt s w

-- what is read from the state in which the start problem has ended
abbrev pub EndedAs : DeckValue → Started → State → Type 0
EndedAs d started.Ready t = slope d t ≡ pos 0
EndedAs d (started.Ray ray) t = (slope d t <ℤ pos 0) × (ray.items ≡ direction t) × AreRayNumbers (direction t)
EndedAs d started.Large t = (slope d t <ℤ pos 0) × ¬ AreRayNumbers (direction t)
EndedAs d started.OutOfPivots t = ⊥
EndedAs d (started.Wide w) t = IsRefusedAt t w

-- ---- where it stopped early

-- a step is due and none is left
pub record IsOutOfPivots (d : DeckValue) (s : State) (pivots left : ℕ) (t : State) : Type 0 where
  pub needed : ¬ WantsOwnEnds d s
  pub run : IsStartRun d s pivots t
  pub due : IsDue t
  pub none_left : left ≡ 0

-- the reduced costs of the first state are not read
pub record IsFirstRefused (s : State) (pivots : ℕ) (t : State) (w : Wide) : Type 0 where
  pub same : t ≡ s
  pub no_pivots : pivots ≡ 0
  pub refused : IsRefusedAt s w

-- a column is refused its end of the start problem
pub record AreEndsRefused (d : DeckValue) (s : State) (pivots : ℕ) (t : State) (w : Wide) : Type 0 where
  pub needed : ¬ WantsOwnEnds d s
  pub no_pivots : pivots ≡ 0
  pub stopped : StoppedBefore (directions d) (root (directions d)) w s t

-- the next step is not taken
pub record IsStepRefused (d : DeckValue) (s : State) (pivots : ℕ) (t : State) (w : Wide) : Type 0 where
  pub needed : ¬ WantsOwnEnds d s
  pub run : IsStartRun d s pivots t
  pub refused : IsRefusedStep t w

-- the start problem has ended, and that state is not read
pub record IsLastRefused (d : DeckValue) (s : State) (pivots : ℕ) (t : State) (w : Wide) : Type 0 where
  pub solved : IsSolved d s pivots t
  pub refused : IsRefusedAt t w

-- an operation is out of range: at the reading of the first state, at the ends of the start problem, at a step, or at the reading of the last state
abbrev pub IsRefusedStart : DeckValue → State → ℕ → State → Wide → Type 0
IsRefusedStart d s pivots t w = IsFirstRefused s pivots t w ⊎ AreEndsRefused d s pivots t w ⊎ IsStepRefused d s pivots t w ⊎ IsLastRefused d s pivots t w

-- ---- all together

-- the start led from s to t in so many pivots, and so many are left
abbrev pub StartedAs : DeckValue → State → ℕ → ℕ → Started → State → Type 0
StartedAs d s pivots left started.Ready t = IsReadyAtOnce d s pivots t ⊎ IsReadyAfter d s pivots t
StartedAs d s pivots left (started.Ray ray) t = HasRay d s pivots t × (ray.items ≡ direction t) × AreRayNumbers (direction t)
StartedAs d s pivots left started.Large t = HasRay d s pivots t × ¬ AreRayNumbers (direction t)
StartedAs d s pivots left started.OutOfPivots t = IsOutOfPivots d s pivots left t
StartedAs d s pivots left (started.Wide w) t = IsRefusedStart d s pivots t w
