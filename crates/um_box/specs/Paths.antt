-- The box at the end of a path of branches.
use Rattle.std.specs.Prelude.{ℕ, zero, suc, List, [], ◌∷◌}
use Rattle.um_model.specs.Values.{DeckValue}
use Rattle.um_model.specs.Boxes.{root}
use Rattle.um_model.specs.declared.branch.Branch.{Branch}
use Rattle.um_model.specs.declared.branch.Side.{Side}
use Rattle.um_box.specs.NodeBoxes.{NodeBoxValue, entered}
use Rattle.um_box.specs.Undos.{undone}
use Rattle.um_box.specs.declared.undo.Undo.{Undo}

-- the box of the whole deck
abbrev pub root_box : DeckValue → NodeBoxValue
root_box d = record { deck = d; limits = root d }

-- the box that the branches of a path leave of a box, with the sides that it takes
abbrev pub box_from : NodeBoxValue → List (Branch × Side) → NodeBoxValue
box_from b [] = b
box_from b (step ∷ steps) = box_from (entered b step.0 step.1) steps

-- the box of a path from the root
abbrev pub box_of_path : DeckValue → List (Branch × Side) → NodeBoxValue
box_of_path d path = box_from (root_box d) path

-- the box that is left by so many undos, the last one first
abbrev pub box_left : (ℕ → Undo) → ℕ → NodeBoxValue → NodeBoxValue
box_left undos zero b = b
box_left undos (suc n) b = box_left undos n (undone (undos n) b)
