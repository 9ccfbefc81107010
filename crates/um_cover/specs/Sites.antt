-- The box of each node of a growing tree.
use Rattle.std.specs.Prelude.{ℕ, zero, suc, List, [], ◌∷◌, slice_index_or, Option, Some, None}
use Rattle.um_model.specs.Values.{DeckValue}
use Rattle.um_model.specs.Boxes.{BoxValue, root}
use Rattle.um_model.specs.Branches.{child}
use Rattle.um_tree.specs.Growths.{GrowthValue}
use Rattle.um_tree.specs.declared.growing.Origin.{Origin}

-- a step up, if there is one, and the way on from there
abbrev pub further : Option Origin → (ℕ → List Origin) → List Origin
further None way = []
further (Some o) way = o ∷ way o.parent

-- at most so many steps from a node up to the root: where it came from, where its parent came from, and so on
abbrev pub way_in : ℕ → List (Option Origin) → ℕ → List Origin
way_in zero origins id = []
way_in (suc steps) origins id = further (slice_index_or origins id None) (way_in steps origins)

-- the way from a node up to the root; as parents have lower ids, it has at most id steps
abbrev pub way : GrowthValue → ℕ → List Origin
way g id = way_in (suc id) g.origins id

-- the box at the lower end of a way
abbrev pub box_along : DeckValue → List Origin → BoxValue
box_along d [] = root d
box_along d (o ∷ os) = child d (box_along d os) o.branch o.side

-- the box of a node
abbrev pub box_at : DeckValue → GrowthValue → ℕ → BoxValue
box_at d g id = box_along d (way g id)

-- the box of a node that came from there
abbrev pub box_from : DeckValue → GrowthValue → Option Origin → BoxValue
box_from d g None = root d
box_from d g (Some o) = child d (box_at d g o.parent) o.branch o.side
