-- The turns on the way from the root to a box, and the right children that wait beside it.
use Rattle.std.specs.Prelude.{◌≡◌, Bool, true, false, List, [], ◌∷◌, ◌++◌, ⊤}
use Rattle.um_model.specs.Boxes.{BoxValue}
use Rattle.um_model.specs.Branches.{Fits, right}
use Rattle.um_model.specs.declared.branch.Branch.{Branch}
use Rattle.um_model.specs.declared.branch.Side.{Side}
use Rattle.um_model.specs.declared.branch.Side.TheVariants.{Left, Right}
use Rattle.um_box.specs.NodeBoxes.{NodeBoxValue, entered}
use Rattle.um_box.specs.Paths.{root_box}
use Rattle.um_box.specs.Undos.{Undoes}
use Rattle.um_check.specs.declared.walk.Turn.{Turn}

-- the box behind a turn
abbrev pub behind : NodeBoxValue → Turn → NodeBoxValue
behind b t = entered b t.branch t.side

-- the box at the end of a way
abbrev pub end_of : NodeBoxValue → List Turn → NodeBoxValue
end_of b [] = b
end_of b (t ∷ ts) = end_of (behind b t) ts

-- the right child waits while the left one is looked at
abbrev pub beside : Side → NodeBoxValue → Branch → List BoxValue
beside Left b branch = right b.deck b.limits branch ∷ []
beside Right b branch = []

-- the right children beside a way, that of the last turn first
abbrev pub waiting : NodeBoxValue → List Turn → List BoxValue
waiting b [] = []
waiting b (t ∷ ts) = waiting (behind b t) ts ++ beside t.side b t.branch

-- the turn's branch fits the box, and its undo leads back
pub record IsTurn (b : NodeBoxValue) (t : Turn) : Type 0 where
  pub fits : Fits b.deck b.limits t.branch
  pub back : Undoes t.undo b (behind b t)

abbrev pub AreTurns : NodeBoxValue → List Turn → Type 0
AreTurns b [] = ⊤
AreTurns b (t ∷ ts) = IsTurn b t × AreTurns (behind b t) ts

-- the turns lead from the root to this box
pub record IsWay (b : NodeBoxValue) (turns : List Turn) : Type 0 where
  pub each : AreTurns (root_box b.deck) turns
  pub end : b ≡ end_of (root_box b.deck) turns

-- the box in hand, where it waits, and those behind it
abbrev pub pending : Bool → BoxValue → List BoxValue → List BoxValue
pending true b others = b ∷ others
pending false b others = []
