-- What holds while the open nodes of a search that stopped early get their multipliers.
use Rattle.std.specs.Prelude.{◌≡◌, ℕ, ◌<◌, ◌≤◌, pos, Bool, List, length, map, Option, Some, IsSome, IsNone}
use Rattle.um_laws.specs.Rational.{Rational}
use Rattle.um_multipliers.specs.PlainMultipliers.{MultipliersValue, plain_multipliers}
use Rattle.um_multipliers.specs.NormalForm.{HasRisingRows}
use Rattle.um_model.specs.Values.{DeckValue}
use Rattle.um_model.specs.declared.answer.Why.{Why}
use Rattle.um_model.specs.declared.answer.Why.TheVariants as why
use Rattle.um_lp.specs.States.{State}
use Rattle.um_model.specs.AnswerValues.{OpenLeaf}
use Rattle.um_tree.specs.Growths.{GrowthValue, what_at, IsAmong}
use Rattle.um_cover.specs.Sites.{box_at}
use Rattle.um_nodes.specs.declared.open_nodes.OpenNode.{OpenNode}
use Rattle.um_progress.specs.declared.incumbent.Incumbent.{Incumbent}
use Rattle.um_progress.specs.Waits.{Every, IsFresh, id_of}
use Rattle.um_progress.specs.Stops.{IsStopping}
use Rattle.um_progress.specs.Incumbents.{objective_of}
use Rattle.um_progress.specs.Lineage.{IsLineage}
use Rattle.um_turns.specs.Turns.{Turn}
use Rattle.um_turns.specs.Histories.{History, IsHistory, AreHanded, IsBest, ray_of}
use Rattle.um_search.specs.declared.budget.Budget.{Budget}
use Rattle.um_loop.specs.Checkables.{AreCheckable}
use Rattle.um_turns.specs.UnnumberedNodes.{AreUnnumbered}
use Rattle.um_turns.specs.NeededTurns.{AreNeeded}
use Rattle.um_search.specs.Told.{IsEndedBy, IsHandedLeaf, IsOpenStill}

-- the multipliers of each entry are of rows of the deck, in rising order
abbrev pub AreRising : DeckValue → List OpenNode → Type 0
AreRising d waiting = Every (λ (w : OpenNode). HasRisingRows (length d.rows) (plain_multipliers w.y).rows) waiting

-- the open leaves without a number, but for those of these ids, have the multipliers that they were handed
abbrev pub AreHandedBut : GrowthValue → History → List ℕ → Type 0
AreHandedBut g history ids = (id : ℕ) → id < length g.nodes → ¬ IsAmong id ids → IsHandedLeaf g history id

-- the node in hand, which is none of these ids, is an open leaf without a number, and its own multipliers do not close it at the best objective
pub record HasHand (d : DeckValue) (best : Option Rational) (g : GrowthValue) (ids : List ℕ) : Type 0 where
  pub hand : ℕ
  pub apart : ¬ IsAmong hand ids
  pub fresh : IsFresh g hand
  pub own : MultipliersValue
  pub own_is : what_at g hand ≡ OpenLeaf own
  pub open_still : IsOpenStill d best (box_at d g hand) own

-- A search that stopped for this cause, where these entries have not got their multipliers yet; `endless` and `least` are what is known of the bounds of all other nodes.
pub record IsEmptying (d : DeckValue) (budget : Budget) (cause : Why) (incumbent : Option Incumbent) (g : GrowthValue) (waiting : List OpenNode) (endless : Bool) (least : Option Rational) : Type 0 where
  pub start : State
  pub history : History
  pub stopping : IsStopping Turn d (pos 0) history g waiting incumbent endless least
  pub told : IsHistory d start budget.pivots g history
  pub rising : AreRising d waiting
  pub checkable : AreCheckable d g
  pub handed : AreHanded g history waiting
  pub others : AreHandedBut g history (map id_of waiting)
  pub unnumbered : AreUnnumbered g history
  pub lineage : IsLineage g
  pub needed : AreNeeded d g history
  pub best : IsBest d history incumbent
  pub ended : IsEndedBy history (Some cause)
  pub no_best : IsSome (ray_of history) → IsNone incumbent
  pub nodes : length history ≤ budget.nodes
  pub all : cause ≡ why.Nodes → length history ≡ budget.nodes
  pub hand : cause ≡ why.Nodes → HasHand d (objective_of incumbent) g (map id_of waiting)
