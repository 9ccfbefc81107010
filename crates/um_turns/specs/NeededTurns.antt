-- The turns of a search that had to be: the best point so far closed none of their nodes.
use Rattle.std.specs.Prelude.{◌≡◌, ℕ, suc, ◌<◌, pos, slice_get}
use Rattle.std.specs.Option.{ForSome}
use Rattle.um_multipliers.specs.PlainMultipliers.{MultipliersValue}
use Rattle.um_model.specs.Values.{DeckValue, PointValue}
use Rattle.um_model.specs.Boxes.{BoxValue}
use Rattle.um_model.specs.Feasible.{Feasible}
use Rattle.um_model.specs.Objective.{objective}
use Rattle.um_model.specs.LeafValue.{Closes}
use Rattle.um_model.specs.AnswerValues.{Split}
use Rattle.um_model.specs.declared.branch.Branch.{Branch}
use Rattle.um_tree.specs.Growths.{GrowthValue, what_at}
use Rattle.um_cover.specs.Sites.{box_at}
use Rattle.um_progress.specs.Numbers.{Number}
use Rattle.um_turns.specs.Turns.{Turn, Reached}
use Rattle.um_turns.specs.Histories.{History, HasVertex}

-- these multipliers close no node in the box at the objective of a feasible vertex of the turns
-- before this place
abbrev pub IsOpenBefore : DeckValue → History → ℕ → BoxValue → MultipliersValue → Type 0
IsOpenBefore d history place b y =
    (k : ℕ) (p : PointValue) → k < place → HasVertex history k p → Feasible d p
    → ¬ Closes d b y (objective d p) (pos 0)

-- The turn at this place had to be.
pub record IsNeeded (d : DeckValue) (g : GrowthValue) (history : History) (place : ℕ)
    (n : Number Turn) : Type 0 where
  -- the multipliers that the node was handed do not close it at a vertex of the turns before
  pub handed : IsOpenBefore d history place (box_at d g n.id) n.told.handed
  -- where it is a split, those of its own vertex do not close it at that vertex or one before
  pub split : (branch : Branch) (p : PointValue) (y : MultipliersValue)
      → what_at g n.id ≡ Split branch → n.told.end ≡ Reached p y
      → IsOpenBefore d history (suc place) (box_at d g n.id) y

-- and so had each turn
abbrev pub AreNeeded : DeckValue → GrowthValue → History → Type 0
AreNeeded d g history = (place : ℕ) → ForSome (slice_get history place) (IsNeeded d g history place)
