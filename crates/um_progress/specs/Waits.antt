-- The nodes that wait.
use Rattle.std.specs.Prelude.{◌≡◌, ℕ, ◌<◌, ℤ, pos, List, [], ◌∷◌, length, None, ⊤, ◌^◌, unsigned_abs}
use Rattle.um_multipliers.specs.PlainMultipliers.{plain_multipliers}
use Rattle.um_model.specs.Values.{DeckValue}
use Rattle.um_model.specs.LeafValue.{leaf_value}
use Rattle.um_model.specs.declared.leaf.Leaf.{Leaf}
use Rattle.um_model.specs.declared.leaf.Leaf.TheVariants.{Value, EndlessColumn, EndlessRow}
use Rattle.um_model.specs.AnswerValues.{WhatValue, Split, Bounded, Empty, Void, OpenLeaf}
use Rattle.um_tree.specs.Growths.{GrowthValue, node_at, what_at}
use Rattle.um_cover.specs.Sites.{box_at}
use Rattle.um_cover.specs.Nodes.{OpenIs}
use Rattle.um_nodes.specs.declared.open_nodes.Key.{Key}
use Rattle.um_nodes.specs.declared.open_nodes.OpenNode.{OpenNode}

-- each item of the list has it
abbrev pub Every : {X : Type 0} → (X → Type 0) → List X → Type 0
Every P [] = ⊤
Every P (x ∷ xs) = P x × Every P xs

-- the node is an open leaf
abbrev pub IsOpenLeaf : WhatValue → Type 0
IsOpenLeaf (Split branch) = ⊥
IsOpenLeaf (Bounded y) = ⊥
IsOpenLeaf (Empty y) = ⊥
IsOpenLeaf (Void column) = ⊥
IsOpenLeaf (OpenLeaf y) = ⊤

-- the key has the y0 of the multipliers and their value on the box, or 0 and 0 where that is endless
abbrev pub KeyIs : Leaf → ℤ → Key → Type 0
KeyIs (Value value) y0 k = (k.y0 ≡ y0) × (k.value ≡ value)
KeyIs (EndlessColumn column) y0 k = (k.y0 ≡ pos 0) × (k.value ≡ pos 0)
KeyIs (EndlessRow row) y0 k = (k.y0 ≡ pos 0) × (k.value ≡ pos 0)

-- the node stands open in the tree, and has no number
pub record IsFresh (g : GrowthValue) (id : ℕ) : Type 0 where
  pub inside : id < length g.nodes
  pub open_leaf : IsOpenLeaf (what_at g id)
  pub solved : (node_at g id).solved ≡ None

-- the entry's node stands open in the tree without a number, its multipliers bound the node's box, and its key is theirs
pub record WaitsIn (d : DeckValue) (g : GrowthValue) (w : OpenNode) : Type 0 where
  pub fresh : IsFresh g w.node
  pub bounds : OpenIs d (box_at d g w.node) (plain_multipliers w.y)
  pub key : KeyIs (leaf_value d (box_at d g w.node) (plain_multipliers w.y)) w.y.y0 w.key
  pub size : unsigned_abs w.key.value < 2 ^ 126

-- the id of an entry's node
abbrev pub id_of : OpenNode → ℕ
id_of w = w.node
