-- The box that a branch enters is that of the child.
use Rattle.std.proofs.Common.{◌≡◌, subst}
use Rattle.um_model.specs.Values.{DeckValue}
use Rattle.um_model.specs.Boxes.{BoxValue}
use Rattle.um_model.specs.Branches.{child}
use Rattle.um_model.specs.declared.branch.Branch.{Branch}
use Rattle.um_model.specs.declared.branch.Side.{Side}
use Rattle.um_box.specs.NodeBoxes.{NodeBoxValue, entered}

-- what holds in the box that was entered holds in the child's box
pub in_child : (P : BoxValue → Type 0) (d : DeckValue) (outer inner : NodeBoxValue) (branch : Branch) (side : Side) → outer.deck ≡ d → inner ≡ entered outer branch side → P inner.limits → P (child d outer.limits branch side)
in_child P d outer inner branch side same is h =
    let entered_child : P (child outer.deck outer.limits branch side) = subst (λ (b : NodeBoxValue). P b.limits) is h in
    subst (λ (e : DeckValue). P (child e outer.limits branch side)) same entered_child
