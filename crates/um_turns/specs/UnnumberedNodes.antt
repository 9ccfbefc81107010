-- The nodes of a growing tree that have no number.
use Rattle.std.specs.Prelude.{◌≡◌, ℕ, ◌<◌, length, Option, None}
use Rattle.um_model.specs.AnswerValues.{NodeValue, WhatValue, Split, Bounded, Empty, Void, OpenLeaf}
use Rattle.um_tree.specs.Growths.{GrowthValue, node_at, origin_at}
use Rattle.um_tree.specs.declared.growing.Origin.{Origin}
use Rattle.um_turns.specs.Histories.{History, IsHanded}

-- what a node that came from there may be without a number: void, or open, or closed with the
-- multipliers that it was handed; a split and an empty leaf come from a solved node alone
abbrev pub MayBeUnsolved : History → Option Origin → WhatValue → Type 0
MayBeUnsolved history o (Split branch) = ⊥
MayBeUnsolved history o (Bounded y) = IsHanded history o y
MayBeUnsolved history o (Empty y) = ⊥
MayBeUnsolved history o (Void column) = Unit {0}
MayBeUnsolved history o (OpenLeaf y) = Unit {0}

-- the node that came from there has a number, or is what it may be without one
abbrev pub IsUnnumbered : History → Option Origin → NodeValue → Type 0
IsUnnumbered history o n = n.solved ≡ None → MayBeUnsolved history o n.what

-- and so is each node of the tree
abbrev pub AreUnnumbered : GrowthValue → History → Type 0
AreUnnumbered g history =
    (id : ℕ) → id < length g.nodes → IsUnnumbered history (origin_at g id) (node_at g id)
