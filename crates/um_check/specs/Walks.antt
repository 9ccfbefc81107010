-- The boxes that wait for their trees while nodes are looked at in preorder.
use Rattle.std.specs.Prelude.{◌≡◌, ℕ, List, [], ◌∷◌}
use Rattle.um_model.specs.Values.{DeckValue}
use Rattle.um_model.specs.Boxes.{BoxValue, root}
use Rattle.um_model.specs.Branches.{Fits, left, right}
use Rattle.um_model.specs.declared.branch.Branch.{Branch}

-- the boxes that wait, the next one first, and how many branches lead to that one
pub record WalkValue : Type 0 where
  pub deck : DeckValue
  pub boxes : List BoxValue
  pub depth : ℕ

-- only the deck's own box waits
abbrev pub start_of : DeckValue → WalkValue
start_of d = record { deck = d; boxes = root d ∷ []; depth = 0 }

-- the box is the one that waits first
abbrev pub IsFirst : BoxValue → List BoxValue → Type 0
IsFirst b [] = ⊥
IsFirst b (next ∷ others) = b ≡ next

-- the branch fits the box that waits first
abbrev pub FirstFits : DeckValue → Branch → List BoxValue → Type 0
FirstFits d branch [] = ⊥
FirstFits d branch (next ∷ others) = Fits d next branch

-- all but the first
abbrev pub rest_of : List BoxValue → List BoxValue
rest_of [] = []
rest_of (next ∷ others) = others

-- the first box's two children in its place
abbrev pub split_first : DeckValue → Branch → List BoxValue → List BoxValue
split_first d branch [] = []
split_first d branch (next ∷ others) = left d next branch ∷ right d next branch ∷ others
