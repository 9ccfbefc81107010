-- The next turn of a search.
use Rattle.std.specs.Prelude.{◌≡◌, ℕ, suc, ◌≤◌, List, length, Option, IsSomeAnd}
use Rattle.um_multipliers.specs.PlainMultipliers.{MultipliersValue, plain_multipliers}
use Rattle.um_model.specs.Values.{DeckValue}
use Rattle.um_model.specs.Feasible.{Feasible}
use Rattle.um_model.specs.Objective.{objective}
use Rattle.um_model.specs.Accepted.{IsAtMost}
use Rattle.um_lp.specs.States.{State}
use Rattle.um_tree.specs.Growths.{GrowthValue, origin_at}
use Rattle.um_cover.specs.Sites.{box_at}
use Rattle.um_nodes.specs.declared.open_nodes.OpenNode.{OpenNode}
use Rattle.um_progress.specs.declared.incumbent.Incumbent.{Incumbent}
use Rattle.um_progress.specs.Waits.{Every}
use Rattle.um_progress.specs.Numbers.{Number}
use Rattle.um_progress.specs.Incumbents.{objective_of}
use Rattle.um_turns.specs.Turns.{Turn, TurnEnd, Reached, Emptied, Halted, EndHolds}
use Rattle.um_turns.specs.Histories.{History, IsHanded, state_behind, left_behind}

-- a turn on the node of this id that may come next: it begins where the last one ended, with the
-- pivots that are left and the multipliers that the node was handed, and is run on the node's box
pub record IsNextTurn (d : DeckValue) (start : State) (most : ℕ) (g : GrowthValue)
    (history : History) (id : ℕ) (n : Number Turn) : Type 0 where
  pub at : n.id ≡ id
  pub before : n.told.before ≡ state_behind start history
  pub left : n.told.left ≡ left_behind most history
  pub few : n.pivots ≤ left_behind most history
  pub run : EndHolds d (box_at d g id) n.told n.pivots (suc (length history)) n.told.end
  pub handed : IsHanded history (origin_at g id) n.told.handed

-- all these entries wait under the same multipliers
abbrev pub AreUnder : MultipliersValue → List OpenNode → Type 0
AreUnder y waiting = Every (λ (w : OpenNode). plain_multipliers w.y ≡ y) waiting

-- a turn that ended so leaves the best point so far: it has no vertex, or one that is not feasible,
-- or whose objective is not below that of the best point
abbrev pub IsNoBetter : DeckValue → Option Incumbent → TurnEnd → Type 0
IsNoBetter d best (Reached p y) =
    Feasible d p → IsSomeAnd (objective_of best) (λ v. IsAtMost v (objective d p))
IsNoBetter d best (Emptied y) = Unit {0}
IsNoBetter d best (Halted cause own) = Unit {0}
