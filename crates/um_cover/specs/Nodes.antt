-- What holds of a node in its box while a search goes on, and when it has ended.
use Rattle.std.specs.Prelude.{ℕ, ◌<◌, ℤ, pos, ◌<ℤ◌, ◌⊎◌, List, length, Contains, Option, Some, None, IsSomeAnd, ⊤}
use Rattle.std.specs.Option.{ForSome}
use Rattle.um_laws.specs.Rational.{Rational}
use Rattle.um_model.specs.Values.{DeckValue}
use Rattle.um_model.specs.Boxes.{BoxValue, IsCrossed, IsVoid}
use Rattle.um_model.specs.Branches.{Fits}
use Rattle.um_model.specs.LeafValue.{Closes, Empties}
use Rattle.um_model.specs.Accepted.{SignHolds, IsStopped, IsAtMost, bounds_at}
use Rattle.um_model.specs.declared.answer.AnswerKind.{AnswerKind}
use Rattle.um_multipliers.specs.PlainMultipliers.{MultipliersValue}
use Rattle.um_multipliers.specs.Sizes.{AreBelow}
use Rattle.um_model.specs.AnswerValues.{WhatValue, Split, Bounded, Empty, Void, OpenLeaf}
use Rattle.um_model.specs.declared.limits.TheConstants.{MULTIPLIER_SIZE}
use Rattle.um_tree.specs.Growths.{GrowthValue, what_at}
use Rattle.um_cover.specs.Sites.{box_at}

-- these multipliers close the box at the incumbent's objective
pub record BoundedIs (d : DeckValue) (incumbent : Option Rational) (tolerance : ℤ) (b : BoxValue) (y : MultipliersValue) : Type 0 where
  pub full : ¬ IsVoid d b
  pub small : AreBelow MULTIPLIER_SIZE y
  pub sign : SignHolds d b y
  pub closes : IsSomeAnd incumbent (λ v. Closes d b y v tolerance)

-- these multipliers show that the box has no feasible point
pub record EmptyIs (d : DeckValue) (b : BoxValue) (y : MultipliersValue) : Type 0 where
  pub full : ¬ IsVoid d b
  pub small : AreBelow MULTIPLIER_SIZE y
  pub sign : SignHolds d b y
  pub empties : Empties d b y

-- the column has crossed ends
pub record VoidIs (d : DeckValue) (b : BoxValue) (column : ℕ) : Type 0 where
  pub inside : column < length d.columns
  pub crossed : IsCrossed d b column

-- these multipliers bound the box
pub record OpenIs (d : DeckValue) (b : BoxValue) (y : MultipliersValue) : Type 0 where
  pub full : ¬ IsVoid d b
  pub small : AreBelow MULTIPLIER_SIZE y
  pub y0 : pos 0 <ℤ y.y0

-- what holds of a node in its box, with the incumbent's objective so far
abbrev pub NodeIs : DeckValue → Option Rational → ℤ → BoxValue → WhatValue → Type 0
NodeIs d incumbent tolerance b (Split branch) = Fits d b branch
NodeIs d incumbent tolerance b (Bounded y) = BoundedIs d incumbent tolerance b y
NodeIs d incumbent tolerance b (Empty y) = EmptyIs d b y
NodeIs d incumbent tolerance b (Void column) = VoidIs d b column
NodeIs d incumbent tolerance b (OpenLeaf y) = OpenIs d b y

-- each node holds in its box
abbrev pub NodesAre : DeckValue → Option Rational → ℤ → GrowthValue → Type 0
NodesAre d incumbent tolerance g = (id : ℕ) → id < length g.nodes → NodeIs d incumbent tolerance (box_at d g id) (what_at g id)

-- the second incumbent is there where the first is, and its objective is not above that of the first
abbrev pub IsImproved : Option Rational → Option Rational → Type 0
IsImproved v w = ForSome v (λ x. IsSomeAnd w (λ y. IsAtMost y x))

-- a leaf is open only where the search stopped early
abbrev pub IsOver : AnswerKind → WhatValue → Type 0
IsOver kind (Split branch) = ⊤
IsOver kind (Bounded y) = ⊤
IsOver kind (Empty y) = ⊤
IsOver kind (Void column) = ⊤
IsOver kind (OpenLeaf y) = IsStopped kind

-- and so of all nodes
abbrev pub AreOver : AnswerKind → GrowthValue → Type 0
AreOver kind g = (id : ℕ) → id < length g.nodes → IsOver kind (what_at g id)

-- ---- the bound, by id

-- the bound of a node, if it has one
abbrev pub bounds_by : DeckValue → GrowthValue → ℕ → List (Option Rational)
bounds_by d g id = bounds_at d (box_at d g id) (what_at g id)

-- a node has this bound
pub record HasBound (d : DeckValue) (g : GrowthValue) (bound : Option Rational) : Type 0 where
  pub id : ℕ
  pub inside : id < length g.nodes
  pub has : Contains (bounds_by d g id) bound

-- one of the nodes has this bound, and none has a lower one or none
pub record IsLeastBound (d : DeckValue) (g : GrowthValue) (x : Rational) : Type 0 where
  pub has : HasBound d g (Some x)
  pub least : (bound : Option Rational) → HasBound d g bound → IsSomeAnd bound (IsAtMost x)

-- the least bound of the nodes; none where there are none, or one is endless
abbrev pub IsBound : DeckValue → GrowthValue → Option Rational → Type 0
IsBound d g None = ((bound : Option Rational) → ¬ HasBound d g bound) ⊎ HasBound d g None
IsBound d g (Some x) = IsLeastBound d g x
