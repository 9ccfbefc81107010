-- The branch that a point asks for: on integer columns first, then on semicontinuous columns, then on sets.
use Rattle.std.specs.Prelude.{ℕ, ℤ, pos, ◌+ℤ◌, ◌*ℤ◌, ◌≤ℤ◌, ◌<ℤ◌}
use Rattle.um_model.specs.Values.{DeckValue, PointValue}
use Rattle.um_model.specs.Feasible.{part, AllPlaces, IntegerHolds, SemiHolds, SetHolds}
use Rattle.um_model.specs.FirstBroken.{IsFirstFailure}
use Rattle.um_model.specs.AverageSplit.{IsAverageSplit}
use Rattle.um_model.specs.declared.branch.Branch.{Branch}
use Rattle.um_model.specs.declared.branch.Branch.TheVariants.{Int, Cut, Semi as OnSemi, One, Two}

-- the greatest whole number that is at most x / den
pub record IsFloor (den x below : ℤ) : Type 0 where
  pub low : (below *ℤ den) ≤ℤ x
  pub high : x <ℤ ((below +ℤ pos 1) *ℤ den)

-- the first integer column whose value is not whole, and the floor of that value
pub record IsFirstPart (d : DeckValue) (p : PointValue) (column : ℕ) (below : ℤ) : Type 0 where
  pub first : IsFirstFailure (IntegerHolds p) d.columns column
  pub floor : IsFloor p.den (part p.parts column) below

-- each integer column is whole, and this is the first semicontinuous column that is neither 0 nor at least its threshold
pub record IsFirstSemi (d : DeckValue) (p : PointValue) (column : ℕ) : Type 0 where
  pub integers : AllPlaces (IntegerHolds p) d.columns
  pub first : IsFirstFailure (SemiHolds p) d.columns column

-- the average split of the first set whose rule fails
pub record IsFirstSplit (d : DeckValue) (p : PointValue) (branch : Branch) : Type 0 where
  pub set : ℕ
  pub first : IsFirstFailure (SetHolds p) d.sets set
  pub split : IsAverageSplit d set p branch

-- each integer column is whole, each semicontinuous column is 0 or at least its threshold, and the first set whose rule fails is split so
pub record IsFirstSet (d : DeckValue) (p : PointValue) (branch : Branch) : Type 0 where
  pub integers : AllPlaces (IntegerHolds p) d.columns
  pub semis : AllPlaces (SemiHolds p) d.columns
  pub split : IsFirstSplit d p branch

-- the branch that a point asks for
abbrev pub IsBranchOf : DeckValue → PointValue → Branch → Type 0
IsBranchOf d p (Int column below) = IsFirstPart d p column below
IsBranchOf d p (Cut column at) = ⊥
IsBranchOf d p (OnSemi column) = IsFirstSemi d p column
IsBranchOf d p (One set at) = IsFirstSet d p (One set at)
IsBranchOf d p (Two set at) = IsFirstSet d p (Two set at)

-- a point asks for none: it keeps the rule of each integer column, of each semicontinuous column and of each set
pub record AsksForNone (d : DeckValue) (p : PointValue) : Type 0 where
  pub integers : AllPlaces (IntegerHolds p) d.columns
  pub semis : AllPlaces (SemiHolds p) d.columns
  pub sets : AllPlaces (SetHolds p) d.sets
