-- How a board is opened for the first number of a search: by the start problem, and without costs where that shows a ray.
use Rattle.std.specs.Prelude.{◌≡◌, ℕ, ℤ, ◌⊎◌, List}
use Rattle.um_num.specs.declared.exact.Wide.{Wide}
use Rattle.um_model.specs.Values.{DeckValue}
use Rattle.um_model.specs.declared.answer.Why.{Why}
use Rattle.um_model.specs.declared.answer.Why.TheVariants as why
use Rattle.um_lp.specs.States.{State}
use Rattle.um_lp.specs.Boards.{IsReset}
use Rattle.um_lp.specs.Refusals.{IsRefusedAct}
use Rattle.um_lp.specs.declared.board.Costs.TheVariants.{Nothing}
use Rattle.um_ray.specs.Rays.{direction}
use Rattle.um_ray.specs.Starts.{IsReadyAtOnce, IsReadyAfter, HasRay, AreRayNumbers, IsOutOfPivots, IsRefusedStart}
use Rattle.um_opening.specs.declared.opening.Opened.{Opened}
use Rattle.um_opening.specs.declared.opening.Opened.TheVariants as opened

-- ---- an open board

-- the board keeps its costs: no start problem was needed, or its least value is 0
abbrev pub IsOpenWithCosts : DeckValue → State → ℕ → State → Type 0
IsOpenWithCosts d s pivots t = IsReadyAtOnce d s pivots t ⊎ IsReadyAfter d s pivots t

-- the start problem, begun in state s, has shown this ray after so many pivots; its numbers are below 2^62 in size
pub record ShowsRay (d : DeckValue) (s : State) (pivots : ℕ) (ray : List ℤ) : Type 0 where
  pub shown : State
  pub found : HasRay d s pivots shown
  pub ray_is : ray ≡ direction shown
  pub small : AreRayNumbers ray

-- a ray was shown, and the board was made anew without costs, which leads to state t
pub record IsOpenWithout (d : DeckValue) (s : State) (pivots : ℕ) (ray : List ℤ) (t : State) : Type 0 where
  pub shows : ShowsRay d s pivots ray
  pub reset : IsReset Nothing shows.shown t

-- ---- where the search stops at its opening

-- a step of the start problem is due in state t, after all pivots that were left
pub record IsSpent (d : DeckValue) (s : State) (pivots left : ℕ) (t : State) : Type 0 where
  pub out : IsOutOfPivots d s pivots 0 t
  pub all : pivots ≡ left

-- an operation of the start problem is out of range after so many steps, in state t
pub record IsWideStart (d : DeckValue) (s : State) (pivots told step : ℕ) (w : Wide) (t : State) : Type 0 where
  pub refused : IsRefusedStart d s pivots t w
  pub first : told ≡ 1
  pub at : step ≡ pivots

-- the start problem has ended in state t with a least value below 0, and there the board stays, as it is not made anew: an operation is out of range, and the state before or after that is wide
pub record IsWideReset (d : DeckValue) (s : State) (pivots told step : ℕ) (w : Wide) (t : State) : Type 0 where
  pub found : HasRay d s pivots t
  pub refused : IsRefusedAct t (IsReset Nothing t) w
  pub first : told ≡ 1
  pub at : step ≡ pivots

-- the start problem has ended in state t and shows a ray; a number of it is 2^62 or larger in size
pub record IsLargeRay (d : DeckValue) (s : State) (pivots : ℕ) (t : State) : Type 0 where
  pub found : HasRay d s pivots t
  pub large : ¬ AreRayNumbers (direction t)

-- the cause for which the search stopped at its opening, with the board led from s to t, after so many pivots of those that were left
abbrev pub StoppedOpening : DeckValue → State → ℕ → ℕ → Why → State → Type 0
StoppedOpening d s pivots left why.Nodes t = ⊥
StoppedOpening d s pivots left why.Pivots t = IsSpent d s pivots left t
StoppedOpening d s pivots left (why.Points column) t = ⊥
StoppedOpening d s pivots left (why.Grid told) t = ⊥
StoppedOpening d s pivots left (why.Pivot told step wide) t = IsWideStart d s pivots told step wide t
StoppedOpening d s pivots left (why.Value told step wide) t = IsWideReset d s pivots told step wide t
StoppedOpening d s pivots left (why.Leaf told) t = ⊥
StoppedOpening d s pivots left (why.Vertex told) t = ⊥
StoppedOpening d s pivots left why.Ray t = IsLargeRay d s pivots t

-- ---- all together

-- the opening led from s to t in so many pivots of those that were left
abbrev pub OpenedAs : DeckValue → State → ℕ → ℕ → Opened → State → Type 0
OpenedAs d s pivots left opened.WithCosts t = IsOpenWithCosts d s pivots t
OpenedAs d s pivots left (opened.WithRay ray) t = IsOpenWithout d s pivots ray.items t
OpenedAs d s pivots left (opened.Stopped cause) t = StoppedOpening d s pivots left cause t
