-- A tree that grows: what is known of its nodes by id, and their preorder.
use Rattle.std.specs.Prelude.{◌≡◌, ℕ, ◌<◌, ◌≤◌, ◌⊎◌, List, [], ◌∷◌, ◌++◌, length, map, slice_index_or, slice_set, Option, Some, None, ⊤}
use Rattle.std.specs.Option.{ForSome}
use Rattle.um_model.specs.declared.branch.Branch.{Branch}
use Rattle.um_model.specs.declared.branch.Side.TheVariants.{Left, Right}
use Rattle.um_model.specs.declared.tree.Solved.{Solved}
use Rattle.um_model.specs.AnswerValues.{NodeValue, WhatValue, Split, Bounded, Empty, Void, OpenLeaf}
use Rattle.um_model.specs.declared.limits.TheConstants.{MOST_NODES}
use Rattle.um_tree.specs.declared.growing.Origin.{Origin}

-- by id: where each node came from, None for the root; and the node
pub record GrowthValue : Type 0 where
  pub origins : List (Option Origin)
  pub nodes : List NodeValue

-- what is kept of an id
abbrev pub origin_at : GrowthValue → ℕ → Option Origin
origin_at g id = slice_index_or g.origins id None

-- what is read where no node is
abbrev pub no_node : NodeValue
no_node = record { solved = None; what = Void 0 }

abbrev pub node_at : GrowthValue → ℕ → NodeValue
node_at g id = slice_index_or g.nodes id no_node

abbrev pub what_at : GrowthValue → ℕ → WhatValue
what_at g id = (node_at g id).what

-- anything but a split
abbrev pub IsLeaf : WhatValue → Type 0
IsLeaf (Split branch) = ⊥
IsLeaf (Bounded y) = ⊤
IsLeaf (Empty y) = ⊤
IsLeaf (Void column) = ⊤
IsLeaf (OpenLeaf y) = ⊤

-- the node is there, and is no split
pub record IsOpenAt (g : GrowthValue) (id : ℕ) : Type 0 where
  pub inside : id < length g.nodes
  pub leaf : IsLeaf (what_at g id)

-- ---- what is done to a tree

-- where the left and the right child of a split come from
abbrev pub left_of : ℕ → Branch → Option Origin
left_of id branch = Some (record { parent = id; branch = branch; side = Left })

abbrev pub right_of : ℕ → Branch → Option Origin
right_of id branch = Some (record { parent = id; branch = branch; side = Right })

-- a node becomes a split, and its children get the next two ids
abbrev pub parted : GrowthValue → ℕ → Option Solved → Branch → NodeValue → NodeValue → GrowthValue
parted g id solved branch left right = record {
  origins = g.origins ++ (left_of id branch ∷ right_of id branch ∷ []);
  nodes = slice_set g.nodes id (record { solved = solved; what = Split branch }) ++ (left ∷ right ∷ []);
}

-- a node becomes this one
abbrev pub settled : GrowthValue → ℕ → NodeValue → GrowthValue
settled g id node = record g { nodes = slice_set g.nodes id node }

-- ---- preorder

-- the origins that wait behind a node: a split's two children, and those that waited before
abbrev pub origins_behind : ℕ → WhatValue → List (Option Origin) → List (Option Origin)
origins_behind id (Split branch) os = left_of id branch ∷ right_of id branch ∷ os
origins_behind id (Bounded y) os = os
origins_behind id (Empty y) os = os
origins_behind id (Void column) os = os
origins_behind id (OpenLeaf y) os = os

-- these ids are the trees that wait for these origins, each in preorder: a split, its left tree, its right tree
abbrev pub AreInOrder : GrowthValue → List (Option Origin) → List ℕ → Type 0
AreInOrder g [] [] = ⊤
AreInOrder g [] (id ∷ ids) = ⊥
AreInOrder g (o ∷ os) [] = ⊥
AreInOrder g (o ∷ os) (id ∷ ids) = (origin_at g id ≡ o) × AreInOrder g (origins_behind id (what_at g id) os) ids

-- the id is in the list; it is not; no id is there twice; all are below this number
abbrev pub IsAmong : ℕ → List ℕ → Type 0
IsAmong id [] = ⊥
IsAmong id (j ∷ js) = (id ≡ j) ⊎ IsAmong id js

abbrev pub IsNew : ℕ → List ℕ → Type 0
IsNew id [] = ⊤
IsNew id (j ∷ js) = ¬ (id ≡ j) × IsNew id js

abbrev pub AreDistinct : List ℕ → Type 0
AreDistinct [] = ⊤
AreDistinct (j ∷ js) = IsNew j js × AreDistinct js

abbrev pub AreInside : ℕ → List ℕ → Type 0
AreInside n [] = ⊤
AreInside n (j ∷ js) = (j < n) × AreInside n js

-- the ids of all nodes, each once, in preorder
pub record IsPreorder (g : GrowthValue) (ids : List ℕ) : Type 0 where
  pub order : AreInOrder g (None ∷ []) ids
  pub inside : AreInside (length g.nodes) ids
  pub distinct : AreDistinct ids
  pub all : (id : ℕ) → id < length g.nodes → IsAmong id ids
  pub size : length ids ≡ length g.nodes

-- what each tree keeps: a node comes from a split of a lower id, by that split's branch
pub record IsGrowth (g : GrowthValue) : Type 0 where
  pub size : length g.origins ≡ length g.nodes
  pub some : 1 ≤ length g.nodes
  pub most : length g.nodes ≤ MOST_NODES
  pub older : (id : ℕ) → ForSome (origin_at g id) (λ (o : Origin). o.parent < id)
  pub split : (id : ℕ) → ForSome (origin_at g id) (λ (o : Origin). what_at g o.parent ≡ Split o.branch)

-- the tree tells the nodes in preorder
pub record IsTold (g : GrowthValue) (tree : List NodeValue) : Type 0 where
  pub ids : List ℕ
  pub is : IsPreorder g ids
  pub tree_is : tree ≡ map (node_at g) ids
