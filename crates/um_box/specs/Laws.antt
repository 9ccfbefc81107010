-- Laws of boxes.
use Rattle.std.specs.Prelude.{◌≡◌, ℕ, ◌+◌, ◌<◌, List, length}
use Rattle.um_model.specs.Values.{DeckValue}
use Rattle.um_model.specs.WellFormed.{AtPlace}
use Rattle.um_model.specs.declared.branch.Branch.{Branch}
use Rattle.um_model.specs.declared.branch.Side.{Side}
use Rattle.um_box.specs.NodeBoxes.{NodeBoxValue, entered}
use Rattle.um_box.specs.Paths.{root_box, box_of_path, box_left}
use Rattle.um_box.specs.Undos.{Undoes}
use Rattle.um_box.specs.declared.undo.Undo.{Undo}

-- boxes that come one after the other on a path: each but the first is entered from the one before, with an undo that leaves it again
pub record AreEntered (d : DeckValue) (path : List (Branch × Side)) (boxes : ℕ → NodeBoxValue) (undos : ℕ → Undo) : Type 0 where
  pub start : boxes 0 ≡ root_box d
  pub child : (k : ℕ) (step : Branch × Side) → AtPlace path k step → boxes (k + 1) ≡ entered (boxes k) step.0 step.1
  pub undo : (k : ℕ) → k < length path → Undoes (undos k) (boxes k) (boxes (k + 1))

-- a path's last box, and the way back from it
pub record IsThereAndBack (d : DeckValue) (path : List (Branch × Side)) (last : NodeBoxValue) (undos : ℕ → Undo) : Type 0 where
  pub there : last ≡ box_of_path d path
  pub back : box_left undos (length path) last ≡ root_box d

-- entering every branch of a path from the root gives the box of that path, and leaving them all, the last one first, gives the root
abbrev pub PathLaw : Type 0
PathLaw = (d : DeckValue) (path : List (Branch × Side)) (boxes : ℕ → NodeBoxValue) (undos : ℕ → Undo) → AreEntered d path boxes undos → IsThereAndBack d path (boxes (length path)) undos
