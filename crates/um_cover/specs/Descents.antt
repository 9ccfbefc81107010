-- What the way down to a node needs.
use Rattle.std.specs.Prelude.{◌≡◌, ℕ, ◌<◌, ⊤, List, [], ◌∷◌, length}
use Rattle.um_model.specs.Values.{DeckValue}
use Rattle.um_model.specs.Branches.{Fits}
use Rattle.um_model.specs.declared.branch.Branch.{Branch}
use Rattle.um_model.specs.AnswerValues.{Split}
use Rattle.um_tree.specs.Growths.{GrowthValue, what_at}
use Rattle.um_tree.specs.declared.growing.Origin.{Origin}
use Rattle.um_cover.specs.Sites.{box_along, box_at}

-- each split's branch fits the box of its node
abbrev pub SplitsFit : DeckValue → GrowthValue → Type 0
SplitsFit d g = (id : ℕ) (branch : Branch) → id < length g.nodes → what_at g id ≡ Split branch → Fits d (box_at d g id) branch

-- the branch of each step of a way up fits the box at the lower end of the rest of the way
abbrev pub FitAlong : DeckValue → List Origin → Type 0
FitAlong d [] = ⊤
FitAlong d (o ∷ os) = Fits d (box_along d os) o.branch × FitAlong d os
