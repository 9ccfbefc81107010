-- Laws of the branch that a point asks for.
use Rattle.std.specs.Prelude.{◌≡◌, ◌≢◌, ℕ, ◌<◌, pos, ◌≤ℤ◌, ◌↔◌, [], length}
use Rattle.um_model.specs.Values.{DeckValue, ColumnValue, PointValue}
use Rattle.um_model.specs.WellFormed.{AtPlace, IsDeck, HasTwoEnds}
use Rattle.um_model.specs.declared.deck.Kind.TheVariants.{Continuous}
use Rattle.um_model.specs.Feasible.{AllPlaces, RowHolds, EndsHold, IntegerHolds, SemiHolds, SetHolds, Feasible}
use Rattle.um_model.specs.Boxes.{BoxValue, InBox, root, ends_of}
use Rattle.um_model.specs.Branches.{Fits, child}
use Rattle.um_model.specs.AverageSplit.{IsAverageSplit}
use Rattle.um_model.specs.declared.branch.Branch.{Branch}
use Rattle.um_model.specs.declared.branch.Side.{Side}
use Rattle.um_duality.specs.Laws.{HoldsOnBox}
use Rattle.um_point.specs.Places.{HoldsAt}
use Rattle.um_split.specs.Branchings.{IsBranchOf}
use Rattle.um_split.specs.Intervals.{KeepsInterval, KeepsIntervals}
use Rattle.um_split.specs.SemiLows.{HasSemiLows}

-- the branch fits the box, and the point lies in neither child
pub record CutsOff (d : DeckValue) (b : BoxValue) (p : PointValue) (branch : Branch) : Type 0 where
  pub fits : Fits d b branch
  pub outside : (side : Side) → ¬ InBox d (child d b branch side) p

-- Where a point keeps the interval of a set, the set's average split fits the box, and the point lies in neither child.
abbrev pub SplitLaw : Type 0
SplitLaw = (d : DeckValue) (b : BoxValue) (set : ℕ) (p : PointValue) (branch : Branch) → IsDeck d → KeepsInterval d b set p → IsAverageSplit d set p branch → CutsOff d b p branch

-- the point lies within the ends of the box and keeps the intervals of its sets; each integer and semicontinuous column has two finite ends in the box, and each semicontinuous one the low end 0 or its threshold
pub record IsPointOf (d : DeckValue) (b : BoxValue) (p : PointValue) : Type 0 where
  pub holds : HoldsOnBox d b p
  pub intervals : KeepsIntervals d b p
  pub ends : (column : ℕ) (c : ColumnValue) → AtPlace d.columns column c → c.kind ≢ Continuous → HasTwoEnds (ends_of d b column).low (ends_of d b column).high
  pub lows : HasSemiLows d b

-- The branch that such a point asks for fits the box, and the point lies in neither child.
abbrev pub BranchingLaw : Type 0
BranchingLaw = (d : DeckValue) (b : BoxValue) (p : PointValue) (branch : Branch) → IsDeck d → IsPointOf d b p → IsBranchOf d p branch → CutsOff d b p branch

-- The low end of each semicontinuous column in the root box is 0.
abbrev pub SemiRootLaw : Type 0
SemiRootLaw = (d : DeckValue) → IsDeck d → HasSemiLows d (root d)

-- The children of a branch that fits have the low ends 0 or the thresholds, where the box has. For now of decks without arcs.
abbrev pub SemiChildLaw : Type 0
SemiChildLaw = (d : DeckValue) (b : BoxValue) (branch : Branch) (side : Side) → d.arcs ≡ [] → Fits d b branch → HasSemiLows d b → HasSemiLows d (child d b branch side)

-- the point satisfies the rows, the ends of the columns, and what integer and semicontinuous columns ask
pub record IsInOrder (d : DeckValue) (p : PointValue) : Type 0 where
  pub den : pos 1 ≤ℤ p.den
  pub parts : length p.parts ≡ length d.columns
  pub rows : AllPlaces (RowHolds d p) d.rows
  pub ends : AllPlaces (EndsHold p) d.columns
  pub integers : AllPlaces (IntegerHolds p) d.columns
  pub semis : AllPlaces (SemiHolds p) d.columns

-- A point in order is feasible just where it keeps the rule of each set.
abbrev pub KeptLaw : Type 0
KeptLaw = (d : DeckValue) (p : PointValue) → IsInOrder d p → ((set : ℕ) → set < length d.sets → HoldsAt (SetHolds p) d.sets set) ↔ Feasible d p
