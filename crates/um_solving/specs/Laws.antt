-- What the next node may rest on, and what a vertex and its multipliers mean for the deck.
use Rattle.std.specs.Prelude.{◌≡◌, ◌≢◌, ℕ, ℤ, pos, ◌≤ℤ◌, ◌<ℤ◌, [], length, Some}
use Rattle.um_model.specs.Values.{DeckValue, ColumnValue, SetValue, PointValue}
use Rattle.um_model.specs.WellFormed.{AtPlace, HasTwoEnds, IsDeck}
use Rattle.um_model.specs.declared.deck.Kind.TheVariants.{Continuous}
use Rattle.um_model.specs.Feasible.{part, AllPlaces, IntegerHolds, SemiHolds, SetHolds, member_parts, Feasible}
use Rattle.um_model.specs.Boxes.{BoxValue, root, span_at, ends_of, ZeroOutside, IsVoid}
use Rattle.um_model.specs.Branches.{Fits, child}
use Rattle.um_model.specs.Objective.{objective}
use Rattle.um_model.specs.LeafValue.{leaf_value, leaf_bound, Empties}
use Rattle.um_model.specs.Accepted.{SignHolds}
use Rattle.um_model.specs.declared.answer.Why.{Why}
use Rattle.um_model.specs.declared.branch.Branch.{Branch}
use Rattle.um_model.specs.declared.branch.Side.{Side}
use Rattle.um_model.specs.declared.leaf.Leaf.TheVariants.{Value}
use Rattle.um_model.specs.declared.limits.TheConstants.{MULTIPLIER_SIZE}
use Rattle.um_multipliers.specs.NormalForm.{HasRisingRows}
use Rattle.um_multipliers.specs.PlainMultipliers.{MultipliersValue}
use Rattle.um_multipliers.specs.Sizes.{AreBelow}
use Rattle.um_lp.specs.States.{State}
use Rattle.um_lp.specs.Boards.{IsBoard}
use Rattle.um_lp.specs.declared.board.Costs.TheVariants.{Given, Nothing}
use Rattle.um_duality.specs.Laws.{HoldsOnBox}
use Rattle.um_duality.specs.Relaxed.{StandsFor}
use Rattle.um_relax.specs.Reboxings.{WantsFiniteEnds}
use Rattle.um_solving.specs.RootBoxes.{IsWithinRoot}
use Rattle.um_relax.specs.Runs.{IsRun}
use Rattle.um_solving.specs.Solvings.{AtVertex, WithoutPoint, StoppedBy}

-- ---- the root box

-- The root box of a well-formed deck is not void.
abbrev pub FullRootLaw : Type 0
FullRootLaw = (d : DeckValue) → IsDeck d → ¬ IsVoid d (root d)

-- The root box lies within itself.
abbrev pub RootWithinLaw : Type 0
RootWithinLaw = (d : DeckValue) → IsWithinRoot d (root d)

-- The children of a branch that fits lie within the root box, where the box does.
abbrev pub ChildWithinLaw : Type 0
ChildWithinLaw = (d : DeckValue) (b : BoxValue) (branch : Branch) (side : Side) → IsDeck d → Fits d b branch → IsWithinRoot d b → IsWithinRoot d (child d b branch side)

-- A point that satisfies the rows within the ends of a box is feasible, where the integer columns are whole, each semicontinuous column is 0 or at least its threshold, and the sets keep their rules.
abbrev pub FeasibleLaw : Type 0
FeasibleLaw =
    (d : DeckValue) (b : BoxValue) (p : PointValue) → IsDeck d → IsWithinRoot d b → HoldsOnBox d b p → AllPlaces (IntegerHolds p) d.columns → AllPlaces (SemiHolds p) d.columns → AllPlaces (SetHolds p) d.sets → Feasible d p

-- At a point within the ends of such a box the members of each set are at least 0, and 0 outside the set's interval.
abbrev pub MembersLaw : Type 0
MembersLaw =
    (d : DeckValue) (b : BoxValue) (p : PointValue) (set : ℕ) (s : SetValue) → IsDeck d → IsWithinRoot d b → HoldsOnBox d b p → AtPlace d.sets set s
    → ((position : ℕ) → pos 0 ≤ℤ part (member_parts p s) position) × ZeroOutside p (span_at b set) s

-- Each integer and semicontinuous column has two finite ends in such a box.
abbrev pub DiscreteEndsLaw : Type 0
DiscreteEndsLaw =
    (d : DeckValue) (b : BoxValue) (column : ℕ) (c : ColumnValue) → IsDeck d → IsWithinRoot d b → AtPlace d.columns column c → c.kind ≢ Continuous → HasTwoEnds (ends_of d b column).low (ends_of d b column).high

-- ---- the next node

-- A node may be begun with the board in this state, on each box within the root box: the ends of the root box that reduced costs want are finite.
pub record MayBegin (d : DeckValue) (s : State) : Type 0 where
  pub board : IsBoard s
  pub stands : StandsFor d s
  pub wants : WantsFiniteEnds d (root d) s

-- What reduced costs want of the root box they want of each box within it.
abbrev pub WithinLaw : Type 0
WithinLaw = (d : DeckValue) (b : BoxValue) (s : State) → IsDeck d → IsWithinRoot d b → WantsFiniteEnds d (root d) s → WantsFiniteEnds d b s

-- A node may be begun on a board that takes no costs.
abbrev pub NoCostsBeginLaw : Type 0
NoCostsBeginLaw = (d : DeckValue) (s : State) → IsBoard s → StandsFor d s → s.costs ≡ Nothing → MayBegin d s

-- The next node may be begun where a run on a node within the root box has led, at a vertex and without a point too.
abbrev pub NextLaw : Type 0
NextLaw = (d : DeckValue) (b : BoxValue) (before : State) (pivots : ℕ) (s : State) → IsDeck d → IsWithinRoot d b → StandsFor d before → IsRun d b before pivots s → MayBegin d s

-- ---- what the ends of a node mean for the deck

-- the vertex satisfies the rows and lies within the ends of the box; its multipliers are those of rows of the deck, the objective's is above 0, and their leaf value has an end, whose bound is the objective of the vertex
pub record VertexSays (d : DeckValue) (b : BoxValue) (p : PointValue) (y : MultipliersValue) : Type 0 where
  pub holds : HoldsOnBox d b p
  pub positive : pos 0 <ℤ y.y0
  pub rising : HasRisingRows (length d.rows) y.rows
  pub value : ℤ
  pub value_is : leaf_value d b y ≡ Value value
  pub bound_is : leaf_bound d y.y0 value ≡ objective d p

-- What a node says that ended at a vertex, on a board that takes the given costs.
abbrev pub VertexLaw : Type 0
VertexLaw =
    (d : DeckValue) (b : BoxValue) (before : State) (pivots : ℕ) (s : State) (p : PointValue) (y : MultipliersValue) → d.arcs ≡ [] → StandsFor d before → before.costs ≡ Given
    → AtVertex d b before pivots s p y → VertexSays d b p y

-- the vertex satisfies the rows and lies within the ends of the box; its multipliers are those of rows of the deck, and the objective's is above 0
pub record HeldSays (d : DeckValue) (b : BoxValue) (p : PointValue) (y : MultipliersValue) : Type 0 where
  pub holds : HoldsOnBox d b p
  pub positive : pos 0 <ℤ y.y0
  pub rising : HasRisingRows (length d.rows) y.rows

-- What it says whichever costs the board takes.
abbrev pub HeldLaw : Type 0
HeldLaw =
    (d : DeckValue) (b : BoxValue) (before : State) (pivots : ℕ) (s : State) (p : PointValue) (y : MultipliersValue) → d.arcs ≡ [] → StandsFor d before → AtVertex d b before pivots s p y → HeldSays d b p y

-- Without costs the multipliers of a vertex are 1 and none.
abbrev pub NoCostsVertexLaw : Type 0
NoCostsVertexLaw =
    (d : DeckValue) (b : BoxValue) (before : State) (pivots : ℕ) (s : State) (p : PointValue) (y : MultipliersValue) → StandsFor d before → before.costs ≡ Nothing → AtVertex d b before pivots s p y
    → y ≡ record { y0 = pos 1; rows = [] }

-- the multipliers are those of rows of the deck and show that the box has no feasible point; their sign and leaf value are as an empty leaf asks
pub record EmptySays (d : DeckValue) (b : BoxValue) (y : MultipliersValue) : Type 0 where
  pub empties : Empties d b y
  pub sign : SignHolds d b y
  pub rising : HasRisingRows (length d.rows) y.rows

-- What a node says that ended without a point.
abbrev pub EmptyLaw : Type 0
EmptyLaw = (d : DeckValue) (b : BoxValue) (before : State) (pivots : ℕ) (s : State) (y : MultipliersValue) → d.arcs ≡ [] → StandsFor d before → WithoutPoint d b before pivots s y → EmptySays d b y

-- the multipliers are small and those of rows of the deck, and the objective's is above 0, as an open leaf asks
pub record OwnSays (d : DeckValue) (y : MultipliersValue) : Type 0 where
  pub positive : pos 0 <ℤ y.y0
  pub below : AreBelow MULTIPLIER_SIZE y
  pub rising : HasRisingRows (length d.rows) y.rows

-- What a node's own multipliers say, where they were read before the search stopped at it.
abbrev pub StoppedLaw : Type 0
StoppedLaw =
    (d : DeckValue) (b : BoxValue) (before : State) (early pivots left number : ℕ) (cause : Why) (y : MultipliersValue) → StandsFor d before → StoppedBy d b before early pivots left number cause (Some y)
    → OwnSays d y
