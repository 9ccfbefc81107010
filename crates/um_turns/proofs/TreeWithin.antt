-- What holds of the boxes of a tree: they lie within the root box, and the low end of each semicontinuous column is 0 or its threshold.
use Rattle.std.proofs.Common.{◌≡◌, ℕ, zero, suc, ◌<◌, ◌≤◌, Option, Some, None, length, refl, sym, subst, arith}
use Rattle.um_model.specs.Values.{DeckValue}
use Rattle.um_model.specs.Boxes.{BoxValue, root}
use Rattle.um_model.specs.Branches.{Fits, child}
use Rattle.um_model.specs.declared.branch.Branch.{Branch}
use Rattle.um_model.specs.declared.branch.Side.{Side}
use Rattle.um_tree.specs.declared.growing.Origin.{Origin}
use Rattle.um_tree.specs.Growths.{GrowthValue, IsGrowth, origin_at}
use Rattle.um_cover.specs.Descents.{SplitsFit}
use Rattle.um_cover.specs.Sites.{box_at, box_from}
use Rattle.um_cover.proofs.Ways.{box_is}
use Rattle.um_solving.specs.RootBoxes.{IsWithinRoot}
use Rattle.um_solving.proofs.RootBoxes.{root-within-law, child-within-law}
use Rattle.um_split.specs.SemiLows.{HasSemiLows}
use Rattle.um_split.proofs.SemiLows.{semi-root-law, semi-child-law}
use Rattle.um_turns.specs.Laws.{BoxWithinLaw, SemiLowsLaw}

-- what holds of the root box, and of the children of each box of which it holds, by a branch that fits, holds of the box of each node
module _ (d : DeckValue) (g : GrowthValue) (growth : IsGrowth g) (fit : SplitsFit d g) (P : BoxValue → Type 0) (at_root : P (root d)) (at_child : (b : BoxValue) (branch : Branch) (side : Side) → Fits d b branch → P b → P (child d b branch side)) where
  -- a parent is below its child
  holds_from : (id : ℕ) → id < length g.nodes → (x : Option Origin) → origin_at g id ≡ x → ((j : ℕ) → j < id → P (box_at d g j)) → P (box_from d g x)
  holds_from id h None e below = at_root
  holds_from id h (Some o) e below =
      let older = growth.older id o e in
      at_child (box_at d g o.parent) o.branch o.side (fit o.parent o.branch (omega (arith, older, h)) (growth.split id o e)) (below o.parent older)

  holds_below : (n : ℕ) → n ≤ length g.nodes → (id : ℕ) → id < n → P (box_at d g id)
  holds_below zero k id h = absurd (omega (arith, h))
  holds_below (suc n) k id h =
      subst P (sym (box_is d g id (origin_at g id) growth refl)) (holds_from id (omega (arith, h, k)) (origin_at g id) refl (λ j below. holds_below n (omega (arith, k)) j (omega (arith, below, h))))

  holds_at : (id : ℕ) → id < length g.nodes → P (box_at d g id)
  holds_at id inside = holds_below (length g.nodes) (omega arith) id inside

pub box_within : BoxWithinLaw
box_within d g id formed growth fit inside = holds_at d g growth fit (IsWithinRoot d) (root-within-law d) (λ b branch side fits within. child-within-law d b branch side formed fits within) id inside

pub semi_lows : SemiLowsLaw
semi_lows d g id formed none growth fit inside = holds_at d g growth fit (HasSemiLows d) (semi-root-law d formed) (λ b branch side fits lows. semi-child-law d b branch side none fits lows) id inside
