-- A path's branches are entered one after the other, and left again.
use Rattle.std.proofs.Common.{◌≡◌, ◌∙◌, ap, refl, ℕ, zero, suc, ◌+◌, ◌<◌, List, [], ◌∷◌, length, arith}
use Rattle.std.specs.Prelude.{slice_get}
use Rattle.um_model.specs.WellFormed.{AtPlace}
use Rattle.um_model.specs.declared.branch.Branch.{Branch}
use Rattle.um_model.specs.declared.branch.Side.{Side}
use Rattle.um_box.specs.NodeBoxes.{NodeBoxValue, entered}
use Rattle.um_box.specs.Paths.{box_from, box_left}
use Rattle.um_box.specs.Undos.{Undoes, undone}
use Rattle.um_box.specs.declared.undo.Undo.{Undo}

pub entered_along : (b : NodeBoxValue) (path : List (Branch × Side)) (boxes : ℕ → NodeBoxValue) → boxes 0 ≡ b
    → ((k : ℕ) (step : Branch × Side) → AtPlace path k step → boxes (k + 1) ≡ entered (boxes k) step.0 step.1) → boxes (length path) ≡ box_from b path
entered_along b [] boxes start child = start
entered_along b (step ∷ steps) boxes start child =
    let first : boxes (0 + 1) ≡ entered b step.0 step.1 = child 0 step refl ∙ ap (λ (n : NodeBoxValue). entered n step.0 step.1) start in
    let later : (k : ℕ) (s : Branch × Side) → AtPlace steps k s → boxes (k + 1 + 1) ≡ entered (boxes (k + 1)) s.0 s.1 = λ k s at.
    let next : k + 1 ≡ suc k = omega arith in
    child (k + 1) s (ap (λ (i : ℕ). slice_get (step ∷ steps) i) next ∙ at) in
    let last : suc (length steps) ≡ length steps + 1 = omega arith in
    ap boxes last ∙ entered_along (entered b step.0 step.1) steps (λ k. boxes (k + 1)) first later

pub left_along : (boxes : ℕ → NodeBoxValue) (undos : ℕ → Undo) (n : ℕ) → ((k : ℕ) → k < n → Undoes (undos k) (boxes k) (boxes (k + 1))) → box_left undos n (boxes n) ≡ boxes 0
left_along boxes undos zero undo = refl
left_along boxes undos (suc n) undo =
    let next : suc n ≡ n + 1 = omega arith in
    let back : undone (undos n) (boxes (suc n)) ≡ boxes n = ap (λ (k : ℕ). undone (undos n) (boxes k)) next ∙ (undo n (omega arith)).back in
    ap (box_left undos n) back ∙ left_along boxes undos n (λ k l. undo k (omega arith))
