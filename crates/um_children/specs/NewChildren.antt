-- A new child of a node that is split.
use Rattle.std.specs.Prelude.{◌≡◌, ℕ, ℤ, pos, List, [], ◌∷◌, Option, Some, None}
use Rattle.um_laws.specs.Rational.{Rational}
use Rattle.um_multipliers.specs.PlainMultipliers.{MultipliersValue, plain_multipliers}
use Rattle.um_model.specs.Values.{DeckValue}
use Rattle.um_model.specs.Boxes.{BoxValue, IsFirstCrossed}
use Rattle.um_model.specs.AnswerValues.{NodeValue, WhatValue, Split, Bounded, Empty, Void, OpenLeaf, plain_node}
use Rattle.um_nodes.specs.declared.open_nodes.OpenNode.{OpenNode}
use Rattle.um_progress.specs.Searches.{ChildIs}
use Rattle.um_children.specs.declared.children.Child.{Child}

-- the entry that waits, if there is one, as a list
abbrev pub entries_of : Option OpenNode → List OpenNode
entries_of None = []
entries_of (Some w) = w ∷ []

-- a new child of this id in this box, whatever the incumbent and the tolerance are
abbrev pub IsChild : DeckValue → BoxValue → ℕ → Child → Type 0
IsChild d b id c = (incumbent : Option Rational) (tolerance : ℤ) → ChildIs d incumbent tolerance b id (plain_node c.node) (entries_of c.entry)

-- 1 for the objective, and none for the rows
abbrev pub one_and_none : MultipliersValue
one_and_none = record { y0 = pos 1; rows = [] }

-- a void node names the first column with crossed ends, and an open one has the multipliers 1 and none
abbrev pub IsNewWhat : DeckValue → BoxValue → WhatValue → Type 0
IsNewWhat d b (Split branch) = ⊥
IsNewWhat d b (Bounded y) = ⊥
IsNewWhat d b (Empty y) = ⊥
IsNewWhat d b (Void column) = IsFirstCrossed d b column
IsNewWhat d b (OpenLeaf y) = y ≡ one_and_none

abbrev pub IsNewNode : DeckValue → BoxValue → NodeValue → Type 0
IsNewNode d b n = IsNewWhat d b n.what

-- the entry waits under these multipliers, with a key of this id and depth
pub record IsEntryUnder (id depth : ℕ) (y : MultipliersValue) (w : OpenNode) : Type 0 where
  pub id_is : w.key.id ≡ id
  pub depth_is : w.key.depth ≡ depth
  pub multipliers : plain_multipliers w.y ≡ y
