-- How the run of the dual simplex method on the box of a node ends. `early` is how many pivots were made under the node's number before its box was put on the board.
use Rattle.std.specs.Prelude.{◌≡◌, ℕ, ◌+◌, ◌⊎◌, Option, Some, None}
use Rattle.um_num.specs.declared.exact.Wide.{Wide}
use Rattle.um_model.specs.Values.{DeckValue, PointValue}
use Rattle.um_multipliers.specs.PlainMultipliers.{MultipliersValue}
use Rattle.um_multipliers.specs.Sizes.{AreBelow}
use Rattle.um_model.specs.Boxes.{BoxValue}
use Rattle.um_model.specs.declared.answer.Why.{Why}
use Rattle.um_model.specs.declared.answer.Why.TheVariants as why
use Rattle.um_model.specs.declared.limits.TheConstants.{POINT_SIZE, MULTIPLIER_SIZE}
use Rattle.um_lp.specs.States.{State}
use Rattle.um_lp.specs.Refusals.{IsRefusedAt}
use Rattle.um_lp.specs.DualSteps.{IsNext, Ended, NoPoint}
use Rattle.um_dual.specs.Methods.{IsDue, IsRefusedStep}
use Rattle.um_duality.specs.Readings.{multipliers, slack_costs, vertex, natural_values, AreFarkas}
use Rattle.um_relax.specs.Limits.{AreSmall, HasLargeFarkas}
use Rattle.um_relax.specs.Reboxings.{StoppedBefore}
use Rattle.um_relax.specs.Runs.{IsRun}

-- the run ended in this state at a vertex, with these multipliers
pub record AtVertex (d : DeckValue) (b : BoxValue) (before : State) (pivots : ℕ) (s : State) (p : PointValue) (y : MultipliersValue) : Type 0 where
  pub run : IsRun d b before pivots s
  pub ended : IsNext s Ended
  pub point : p ≡ vertex s
  pub multipliers : y ≡ multipliers s

-- the run ended in this state without a point, with these multipliers of Farkas
pub record WithoutPoint (d : DeckValue) (b : BoxValue) (before : State) (pivots : ℕ) (s : State) (y : MultipliersValue) : Type 0 where
  pub row : ℕ
  pub run : IsRun d b before pivots s
  pub ended : IsNext s (NoPoint row)
  pub multipliers : AreFarkas s row y

-- a step is due after all pivots that were left; the node's own multipliers are not read
pub record OutOfPivots (d : DeckValue) (b : BoxValue) (before : State) (pivots left : ℕ) (own : Option MultipliersValue) : Type 0 where
  pub state : State
  pub run : IsRun d b before pivots state
  pub due : IsDue state
  pub all : pivots ≡ left
  pub unread : own ≡ None

-- the step after so many pivots on the node of this number is not taken: an operation is out of range, where a number of the state is read or the step that is due is done, and that state is wide, or the one to which the step leads. A number that is not read is the value of a basic column, which is then itself out of range, and it stays open whether a step is due; or the row that leaves is known, so that the run has not ended at a vertex, and a column that may enter for it, or whose entry in it is itself out of range, so that where the entries are in range the run has not ended without a point either. The node's own multipliers are not read
pub record WideStep (d : DeckValue) (b : BoxValue) (before : State) (early pivots number told step : ℕ) (w : Wide) (own : Option MultipliersValue) : Type 0 where
  pub state : State
  pub run : IsRun d b before pivots state
  pub same : told ≡ number
  pub at : step ≡ early + pivots
  pub refused : IsRefusedStep state w
  pub unread : own ≡ None

-- the ends of the box are not all put on the board, and so no step was taken: an operation is out of range, where the next column gets its ends, and the state before or after that is wide
pub record WideEnds (d : DeckValue) (b : BoxValue) (before : State) (early pivots number told step : ℕ) (w : Wide) (own : Option MultipliersValue) : Type 0 where
  pub reached : State
  pub stopped : StoppedBefore d b w before reached
  pub same : told ≡ number
  pub at : step ≡ early
  pub no_pivots : pivots ≡ 0
  pub unread : own ≡ None

-- what is not read of a state in which the run has ended, and which multipliers of its own the node has then: those of its vertex where these were read, else none
pub data IsUnread (s : State) (own : Option MultipliersValue) : Type 0 where
  OwnMultipliers : IsNext s Ended → own ≡ None → IsUnread s own
  VertexValues : IsNext s Ended → own ≡ Some (multipliers s) → AreBelow MULTIPLIER_SIZE (multipliers s) → IsUnread s own
  FarkasMultipliers : (row : ℕ) → IsNext s (NoPoint row) → own ≡ None → IsUnread s own

-- the run has ended, and its last state is not read: an operation of the reading is out of range, and that state is wide
pub record WideReading (d : DeckValue) (b : BoxValue) (before : State) (early pivots number told step : ℕ) (w : Wide) (own : Option MultipliersValue) : Type 0 where
  pub state : State
  pub run : IsRun d b before pivots state
  pub same : told ≡ number
  pub at : step ≡ early + pivots
  pub refused : IsRefusedAt state w
  pub unread : IsUnread state own

-- the multipliers of the vertex, or those of Farkas, are too large
pub record LargeMultipliers (d : DeckValue) (b : BoxValue) (before : State) (pivots number told : ℕ) (own : Option MultipliersValue) : Type 0 where
  pub state : State
  pub run : IsRun d b before pivots state
  pub same : told ≡ number
  pub cause : (IsNext state Ended × ¬ AreSmall MULTIPLIER_SIZE (slack_costs state)) ⊎ ((row : ℕ) × IsNext state (NoPoint row) × HasLargeFarkas MULTIPLIER_SIZE state row)
  pub unread : own ≡ None

-- the vertex has numbers that are too large; its multipliers are read
pub record LargeVertex (d : DeckValue) (b : BoxValue) (before : State) (pivots number told : ℕ) (own : Option MultipliersValue) : Type 0 where
  pub state : State
  pub run : IsRun d b before pivots state
  pub same : told ≡ number
  pub ended : IsNext state Ended
  pub large : ¬ AreSmall POINT_SIZE (natural_values state)
  pub small : AreBelow MULTIPLIER_SIZE (multipliers state)
  pub multipliers : own ≡ Some (multipliers state)

-- the cause for which the search stopped at the node of this number, after so many pivots on its box, of those that were left, with the node's own multipliers where they were read
abbrev pub StoppedBy : DeckValue → BoxValue → State → ℕ → ℕ → ℕ → ℕ → Why → Option MultipliersValue → Type 0
StoppedBy d b before early pivots left number why.Nodes own = ⊥
StoppedBy d b before early pivots left number why.Pivots own = OutOfPivots d b before pivots left own
StoppedBy d b before early pivots left number (why.Points column) own = ⊥
StoppedBy d b before early pivots left number (why.Grid told) own = ⊥
StoppedBy d b before early pivots left number (why.Pivot told step wide) own = WideStep d b before early pivots number told step wide own
StoppedBy d b before early pivots left number (why.Value told step wide) own = WideEnds d b before early pivots number told step wide own ⊎ WideReading d b before early pivots number told step wide own
StoppedBy d b before early pivots left number (why.Leaf told) own = LargeMultipliers d b before pivots number told own
StoppedBy d b before early pivots left number (why.Vertex told) own = LargeVertex d b before pivots number told own
StoppedBy d b before early pivots left number why.Ray own = ⊥
