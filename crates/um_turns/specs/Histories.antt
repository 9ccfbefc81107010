-- The history of a search: its turns, in the order of their numbers.
use Rattle.std.specs.Prelude.{◌≡◌, ℕ, suc, ◌+◌, ◌-◌, ◌<◌, ◌≤◌, ℤ, pos, List, [], ◌∷◌, slice_get, Option, Some, None}
use Rattle.std.specs.Option.{ForSome}
use Rattle.um_laws.specs.Rational.{Rational}
use Rattle.um_multipliers.specs.PlainMultipliers.{MultipliersValue, plain_multipliers}
use Rattle.um_model.specs.Values.{DeckValue, PointValue, plain_point}
use Rattle.um_model.specs.Feasible.{Feasible}
use Rattle.um_model.specs.Objective.{objective}
use Rattle.um_model.specs.Accepted.{IsAtMost}
use Rattle.um_lp.specs.States.{State}
use Rattle.um_lp.specs.Boards.{IsBoard, IsStart}
use Rattle.um_duality.specs.Relaxed.{deck_frame}
use Rattle.um_tree.specs.Growths.{GrowthValue, origin_at, what_at}
use Rattle.um_tree.specs.declared.growing.Origin.{Origin}
use Rattle.um_cover.specs.Sites.{box_at}
use Rattle.um_nodes.specs.declared.open_nodes.OpenNode.{OpenNode}
use Rattle.um_progress.specs.declared.incumbent.Incumbent.{Incumbent}
use Rattle.um_progress.specs.Waits.{Every}
use Rattle.um_progress.specs.Numbers.{Number}
use Rattle.um_turns.specs.Turns.{Turn, Reached, EndHolds, Became, IsFinished}

-- the turns of a search, in the order of their numbers
abbrev pub History : Type 0
History = List (Number Turn)

-- ---- the board

-- each turn begins where the one before ended and with the pivots that it left, the first in this
-- state with so many
abbrev pub AreChained : State → ℕ → History → Type 0
AreChained s left [] = Unit {0}
AreChained s left (n ∷ ns) =
    (n.told.before ≡ s) × (n.told.left ≡ left) × (n.pivots ≤ left)
    × AreChained n.told.after (left - n.pivots) ns

-- the state of the board behind all turns
abbrev pub state_behind : State → History → State
state_behind s [] = s
state_behind s (n ∷ ns) = state_behind n.told.after ns

-- the pivots that are left behind all turns
abbrev pub left_behind : ℕ → History → ℕ
left_behind left [] = left
left_behind left (n ∷ ns) = left_behind (left - n.pivots) ns

-- the pivots of all turns
abbrev pub pivots_of : History → ℕ
pivots_of [] = 0
pivots_of (n ∷ ns) = n.pivots + pivots_of ns

-- the ray that a turn has shown, if one has; only the first turn opens the board, and so only that
-- can
abbrev pub ray_of : History → Option (List ℤ)
ray_of [] = None
ray_of (n ∷ ns) = n.told.ray

-- ---- the tree

-- a turn on the parent of a node that came from there ended at a vertex with these multipliers
pub record HandedBy (history : History) (o : Origin) (y : MultipliersValue) : Type 0 where
  pub place : ℕ
  pub number : Number Turn
  pub here : slice_get history place ≡ Some number
  pub parent : number.id ≡ o.parent
  pub point : PointValue
  pub vertex : number.told.end ≡ Reached point y

-- the multipliers that a node was handed: 1 and none for the root, else those of the vertex at
-- which its parent ended
abbrev pub IsHanded : History → Option Origin → MultipliersValue → Type 0
IsHanded history None y = y ≡ record { y0 = pos 1; rows = [] }
IsHanded history (Some o) y = HandedBy history o y

-- what is told of a number: its run on the box of its node, what became of the node, and what it
-- was handed
pub record TurnHolds (d : DeckValue) (g : GrowthValue) (history : History) (number : ℕ)
    (n : Number Turn) : Type 0 where
  pub run : EndHolds d (box_at d g n.id) n.told n.pivots number n.told.end
  pub became : Became d n.told.handed n.told.end (what_at g n.id)
  pub handed : IsHanded history (origin_at g n.id) n.told.handed

-- a history of a search with so many pivots, on a board that starts in this state
pub record IsHistory (d : DeckValue) (start : State) (most : ℕ) (g : GrowthValue)
    (history : History) : Type 0 where
  pub starts : IsStart (deck_frame d) start
  pub board : IsBoard start
  pub chained : AreChained start most history
  pub holds : (place : ℕ) → ForSome (slice_get history place) (TurnHolds d g history (suc place))

-- the search stopped in none of the turns
abbrev pub AreFinished : History → Type 0
AreFinished history = Every (λ (n : Number Turn). IsFinished n.told.end) history

-- each node that waits has the multipliers that it was handed
abbrev pub AreHanded : GrowthValue → History → List OpenNode → Type 0
AreHanded g history waiting =
    Every (λ (w : OpenNode). IsHanded history (origin_at g w.node) (plain_multipliers w.y)) waiting

-- ---- the best point

-- a turn at this place ended at this vertex
pub record HasVertex (history : History) (place : ℕ) (p : PointValue) : Type 0 where
  pub number : Number Turn
  pub here : slice_get history place ≡ Some number
  pub own : MultipliersValue
  pub vertex : number.told.end ≡ Reached p own

-- the first of least objective among the feasible vertices
pub record IsFirstBest (d : DeckValue) (history : History) (point : PointValue) (value : Rational)
    : Type 0 where
  pub place : ℕ
  pub here : HasVertex history place point
  pub feasible : Feasible d point
  pub value_is : value ≡ objective d point
  pub least : (k : ℕ) (p : PointValue) → HasVertex history k p → Feasible d p
      → IsAtMost value (objective d p)
  pub first : (k : ℕ) (p : PointValue) → k < place → HasVertex history k p → Feasible d p
      → ¬ IsAtMost (objective d p) value

-- the best point of a history; none where no vertex is feasible
abbrev pub IsBest : DeckValue → History → Option Incumbent → Type 0
IsBest d history None = (k : ℕ) (p : PointValue) → HasVertex history k p → ¬ Feasible d p
IsBest d history (Some i) = IsFirstBest d history (plain_point i.point) i.objective
