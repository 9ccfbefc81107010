-- A search between two acts.
use Rattle.std.specs.Prelude.{◌≡◌, ℕ, ◌+◌, ◌*◌, ◌<◌, ◌≤◌, ℤ, ◌⊎◌, List, [], ◌∷◌, length, map, Option, Some, None, IfSome, IsSomeAnd, ◌^◌, unsigned_abs}
use Rattle.um_laws.specs.Rational.{Rational}
use Rattle.um_multipliers.specs.PlainMultipliers.{plain_multipliers}
use Rattle.um_model.specs.Values.{DeckValue, plain_point}
use Rattle.um_model.specs.Boxes.{BoxValue}
use Rattle.um_model.specs.LeafValue.{leaf_value}
use Rattle.um_model.specs.Right.{IsSolution}
use Rattle.um_model.specs.Accepted.{IsSmallPoint, IsAtMost, bounds_at}
use Rattle.um_model.specs.AnswerValues.{NodeValue, WhatValue, Split, Bounded, Empty, Void, OpenLeaf}
use Rattle.um_tree.specs.Growths.{GrowthValue, IsGrowth, what_at, IsAmong, AreDistinct}
use Rattle.um_cover.specs.Nodes.{NodeIs, NodesAre, OpenIs, bounds_by}
use Rattle.um_nodes.specs.declared.open_nodes.OpenNode.{OpenNode}
use Rattle.um_progress.specs.declared.incumbent.Incumbent.{Incumbent}
use Rattle.um_progress.specs.Incumbents.{objective_of}
use Rattle.um_progress.specs.Waits.{Every, IsOpenLeaf, IsFresh, KeyIs, WaitsIn, id_of}
use Rattle.um_progress.specs.Numbers.{Number, IsNumbered}

-- a feasible point of small numbers, with its objective
pub record IsIncumbent (d : DeckValue) (i : Incumbent) : Type 0 where
  pub small : IsSmallPoint (plain_point i.point)
  pub solution : IsSolution d (plain_point i.point) i.objective

-- the id in hand, if there is one, and those that wait
abbrev pub held : Option ℕ → List ℕ → List ℕ
held None ids = ids
held (Some id) ids = id ∷ ids

-- the node was closed by its bound
abbrev pub IsBounded : WhatValue → Type 0
IsBounded (Split branch) = ⊥
IsBounded (Bounded y) = Unit {0}
IsBounded (Empty y) = ⊥
IsBounded (Void column) = ⊥
IsBounded (OpenLeaf y) = ⊥

-- a node that was closed has this bound
abbrev pub IsClosedAt : DeckValue → GrowthValue → Rational → Type 0
IsClosedAt d g x = (id : ℕ) × (id < length g.nodes) × IsBounded (what_at g id) × (bounds_by d g id ≡ Some x ∷ [])

-- the node has a bound, which is not below this one
abbrev pub IsBoundFrom : DeckValue → GrowthValue → ℕ → Rational → Type 0
IsBoundFrom d g id x = (y : Rational) × (bounds_by d g id ≡ Some y ∷ []) × IsAtMost x y

-- the least bound of the nodes that were closed: one of them has it, and none has a lower one; none where there are none
pub record IsLeastClosed (d : DeckValue) (g : GrowthValue) (least : Option Rational) : Type 0 where
  pub among : IfSome least (IsClosedAt d g)
  pub below : (id : ℕ) → id < length g.nodes → IsBounded (what_at g id) → IsSomeAnd least (IsBoundFrom d g id)

-- the lesser of a least bound, if there is one, and one bound more
abbrev pub IsLesser : Option Rational → Rational → Option Rational → Type 0
IsLesser least x after = ((after ≡ Some x) × IfSome least (λ y. IsAtMost x y)) ⊎ ((after ≡ least) × IsSomeAnd least (λ y. IsAtMost y x))

-- A search of a deck with this tolerance (in thousandths). `history` are its solved nodes in the order of their
-- numbers, `hand` is a node that was taken and is not settled yet, and `least` the least bound of the nodes that were closed.
--   growth: the tree is one
--   nodes: each node holds in its box
--   best: the best point is feasible and has its objective
--   waits: what waits stands open in the tree, and its key is that of its multipliers on its box
--   distinct: no node waits twice, and the one in hand does not wait
--   in_hand: the one in hand stands open in the tree, without a number
--   all: each open node waits or is in hand
--   closed: the least bound is that of the nodes that were closed
--   numbered: the numbers in the tree are those of the history
--   size: each number made two nodes at most
pub record IsSearch (W : Type 0) (d : DeckValue) (tolerance : ℤ) (history : List (Number W)) (hand : Option ℕ) (g : GrowthValue) (waiting : List OpenNode) (incumbent : Option Incumbent) (least : Option Rational) : Type 0 where
  pub growth : IsGrowth g
  pub nodes : NodesAre d (objective_of incumbent) tolerance g
  pub best : IfSome incumbent (IsIncumbent d)
  pub waits : Every (WaitsIn d g) waiting
  pub distinct : AreDistinct (held hand (map id_of waiting))
  pub in_hand : IfSome hand (IsFresh g)
  pub all : (id : ℕ) → id < length g.nodes → IsOpenLeaf (what_at g id) → IsAmong id (held hand (map id_of waiting))
  pub closed : IsLeastClosed d g least
  pub numbered : IsNumbered W g history
  pub size : length g.nodes ≤ 1 + 2 * length history

-- what the node in hand becomes: closed, and its bound is counted, or empty or void, and the least bound stays
abbrev pub Settles : DeckValue → BoxValue → WhatValue → Option Rational → Option Rational → Type 0
Settles d b (Split branch) least after = ⊥
Settles d b (Bounded y) least after = (x : Rational) × (bounds_at d b (Bounded y) ≡ Some x ∷ []) × IsLesser least x after
Settles d b (Empty y) least after = after ≡ least
Settles d b (Void column) least after = after ≡ least
Settles d b (OpenLeaf y) least after = ⊥

-- the entry of an open child of this id in this box: its multipliers bound the box, and the key is theirs
pub record IsEntryOf (d : DeckValue) (b : BoxValue) (id : ℕ) (w : OpenNode) : Type 0 where
  pub node : w.node ≡ id
  pub bounds : OpenIs d b (plain_multipliers w.y)
  pub key : KeyIs (leaf_value d b (plain_multipliers w.y)) w.y.y0 w.key
  pub size : unsigned_abs w.key.value < 2 ^ 126

-- a new child's node is void, and nothing waits for it, or it is open, and its entry waits
abbrev pub ChildWaits : DeckValue → BoxValue → ℕ → WhatValue → List OpenNode → Type 0
ChildWaits d b id (Split branch) more = ⊥
ChildWaits d b id (Bounded y) more = ⊥
ChildWaits d b id (Empty y) more = ⊥
ChildWaits d b id (Void column) more = more ≡ []
ChildWaits d b id (OpenLeaf y) more = (w : OpenNode) × (more ≡ w ∷ []) × IsEntryOf d b id w

-- a new child of this id in this box: it has no number and holds in the box, and `more` are the entries that wait for it
pub record ChildIs (d : DeckValue) (incumbent : Option Rational) (tolerance : ℤ) (b : BoxValue) (id : ℕ) (n : NodeValue) (more : List OpenNode) : Type 0 where
  pub solved : n.solved ≡ None
  pub holds : NodeIs d incumbent tolerance b n.what
  pub waits : ChildWaits d b id n.what more
