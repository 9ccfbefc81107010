-- What a start says of the deck.
use Rattle.std.specs.Prelude.{◌≡◌, ℕ, ℤ, pos, ◌≤ℤ◌, ◌<ℤ◌, ◌↔◌, []}
use Rattle.um_num.specs.Listed.{Listed}
use Rattle.um_model.specs.Values.{DeckValue}
use Rattle.um_model.specs.Boxes.{root}
use Rattle.um_model.specs.Rays.{Ray}
use Rattle.um_lp.specs.States.{State}
use Rattle.um_lp.specs.Boards.{IsStart, IsBoard}
use Rattle.um_lp.specs.declared.board.Costs.TheVariants.{Given}
use Rattle.um_lp.specs.DualSteps.{IsNext, Ended, NoPoint}
use Rattle.um_duality.specs.Laws.{IsOnBox}
use Rattle.um_duality.specs.Relaxed.{StandsFor, deck_frame}
use Rattle.um_relax.specs.Reboxings.{WantsFiniteEnds}
use Rattle.um_ray.specs.Directions.{directions}
use Rattle.um_ray.specs.Rays.{direction, slope}
use Rattle.um_ray.specs.Starts.{WantsOwnEnds, IsStartRun, StartedAs}
use Rattle.um_ray.specs.declared.starting.Started.TheVariants as started

-- On a board that starts, the ends of the start problem that reduced costs want are finite: all ends of its columns are, and each slack is basic.
abbrev pub MayStartLaw : Type 0
MayStartLaw = (d : DeckValue) (s : State) → IsStart (deck_frame d) s → IsBoard s → WantsFiniteEnds (directions d) (root (directions d)) s

-- A run of the start problem is one on the box of directions.
abbrev pub OnDirectionsLaw : Type 0
OnDirectionsLaw = (d : DeckValue) (s : State) (pivots : ℕ) (t : State) → d.arcs ≡ [] → StandsFor d s → IsStartRun d s pivots t → IsOnBox (directions d) (root (directions d)) t

-- The start problem has a point, as 0 is one.
abbrev pub PointLaw : Type 0
PointLaw = (d : DeckValue) (t : State) (row : ℕ) → IsOnBox (directions d) (root (directions d)) t → ¬ IsNext t (NoPoint row)

-- With the given costs its value is never above 0.
abbrev pub LeastLaw : Type 0
LeastLaw = (d : DeckValue) (t : State) → IsOnBox (directions d) (root (directions d)) t → t.costs ≡ Given → slope d t ≤ℤ pos 0

-- And it is 0 exactly where each end of the deck that a reduced cost wants is finite.
abbrev pub LevelLaw : Type 0
LevelLaw = (d : DeckValue) (t : State) → IsOnBox (directions d) (root (directions d)) t → t.costs ≡ Given → (slope d t ≡ pos 0) ↔ WantsOwnEnds d t

-- Where it is below 0 at the end, the direction is a ray.
abbrev pub RayLaw : Type 0
RayLaw = (d : DeckValue) (t : State) → IsOnBox (directions d) (root (directions d)) t → IsNext t Ended → slope d t <ℤ pos 0 → Ray d (direction t)

-- ---- what a start answers

-- Where it is ready, each end of the deck that a reduced cost wants is finite, on the board as the start left it.
abbrev pub StartedReadyLaw : Type 0
StartedReadyLaw = (d : DeckValue) (s : State) (pivots left : ℕ) (t : State) → d.arcs ≡ [] → IsStart (deck_frame d) s → StartedAs d s pivots left started.Ready t → WantsOwnEnds d t

-- The ray that it hands out is a ray of the deck.
abbrev pub StartedRayLaw : Type 0
StartedRayLaw = (d : DeckValue) (s : State) (pivots left : ℕ) (ray : Listed ℤ) (t : State) → d.arcs ≡ [] → IsStart (deck_frame d) s → StartedAs d s pivots left (started.Ray ray) t → Ray d ray.items

-- Where a number is too large, the direction is a ray of the deck, too.
abbrev pub StartedLargeLaw : Type 0
StartedLargeLaw = (d : DeckValue) (s : State) (pivots left : ℕ) (t : State) → d.arcs ≡ [] → IsStart (deck_frame d) s → StartedAs d s pivots left started.Large t → Ray d (direction t)
