-- What is handed down a tree from its root, as boxes, depths or the number of the parent are.
use Rattle.std.specs.Prelude.{List, [], ◌∷◌}
use Rattle.um_model.specs.declared.branch.Branch.{Branch}
use Rattle.um_model.specs.declared.branch.Side.{Side}
use Rattle.um_model.specs.declared.branch.Side.TheVariants.{Left, Right}
use Rattle.um_model.specs.AnswerValues.{NodeValue, WhatValue, Split, Bounded, Empty, Void, OpenLeaf}

-- what the root has, and what a split with this node hands to a child
pub record Handing (W : Type 0) : Type 0 where
  pub first : W
  pub child : W → NodeValue → Branch → Side → W

-- what waits behind a node
abbrev pub waiting_behind : {W : Type 0} → Handing W → W → NodeValue → WhatValue → List W → List W
waiting_behind h w n (Split branch) ws = h.child w n branch Left ∷ h.child w n branch Right ∷ ws
waiting_behind h w n (Bounded y) ws = ws
waiting_behind h w n (Empty y) ws = ws
waiting_behind h w n (Void column) ws = ws
waiting_behind h w n (OpenLeaf y) ws = ws

-- a node with what it was handed
pub record Site (W : Type 0) : Type 0 where
  pub has : W
  pub node : NodeValue

-- the nodes of a list in preorder, each with what it was handed
abbrev pub sites : {W : Type 0} → Handing W → List W → List NodeValue → List (Site W)
sites h [] ns = []
sites h (w ∷ ws) [] = []
sites h (w ∷ ws) (n ∷ ns) = record { has = w; node = n } ∷ sites h (waiting_behind h w n n.what ws) ns

-- the sites of a whole tree
abbrev pub sites_of : {W : Type 0} → Handing W → List NodeValue → List (Site W)
sites_of h ns = sites h (h.first ∷ []) ns
