-- The depth of a node: how many steps its way up to the root has, and what a split leaves of it.
use Rattle.std.proofs.Common.{◌≡◌, ◌∙◌, ℕ, zero, suc, ◌+◌, ◌<◌, ◌≤◌, List, [], ◌∷◌, ◌++◌, length, slice_index_or, Option, Some, None, refl, sym, ap, subst, arith}
use Rattle.um_multipliers.specs.PlainMultipliers.{MultipliersValue}
use Rattle.um_model.specs.Values.{DeckValue}
use Rattle.um_model.specs.Boxes.{BoxValue}
use Rattle.um_model.specs.AnswerValues.{NodeValue, WhatValue, Split, Bounded, Empty, Void, OpenLeaf}
use Rattle.um_model.specs.declared.branch.Branch.{Branch}
use Rattle.um_model.specs.declared.tree.Solved.{Solved}
use Rattle.um_tree.specs.Growths.{GrowthValue, IsGrowth, origin_at, left_of, right_of, parted, settled}
use Rattle.um_tree.specs.declared.growing.Origin.{Origin}
use Rattle.um_tree.proofs.Writes.{in_front, first_more, second_more}
use Rattle.um_cover.specs.Sites.{further, way_in, way}
use Rattle.um_cover.proofs.Ways.{way_some}
use Rattle.um_nodes.specs.declared.open_nodes.OpenNode.{OpenNode}
use Rattle.um_progress.specs.Waits.{Every, WaitsIn}
use Rattle.um_progress.specs.Searches.{ChildWaits}
use Rattle.um_progress.proofs.Acts.{every_join}
use Rattle.um_children.specs.NewChildren.{IsEntryUnder}
use Rattle.um_turns.proofs.Lists.{every_map, every_both}
use Rattle.um_loop.specs.Goings.{IsKeyOf}

-- ---- a way has no more steps than it may
further_within : (x : Option Origin) (f : ℕ → List Origin) (n : ℕ) → ((id : ℕ) → length (f id) ≤ n) → length (further x f) ≤ suc n
further_within None f n h = omega arith
further_within (Some o) f n h = let on = h o.parent in omega (arith, on)

steps_within : (n : ℕ) (origins : List (Option Origin)) (id : ℕ) → length (way_in n origins id) ≤ n
steps_within zero origins id = omega arith
steps_within (suc n) origins id = further_within (slice_index_or origins id None) (way_in n origins) n (steps_within n origins)

pub way_within : (g : GrowthValue) (id : ℕ) → length (way g id) ≤ suc id
way_within g id = steps_within (suc id) g.origins id

-- the root has no way up
way_none : (g : GrowthValue) (id : ℕ) → origin_at g id ≡ None → way g id ≡ []
way_none g id e = ap (λ (x : Option Origin). further x (way_in id g.origins)) e

-- ---- a node becomes this one, and came from where it came
pub keys_settled : (g : GrowthValue) (id : ℕ) (node : NodeValue) (ws : List OpenNode) → Every (IsKeyOf g) ws → Every (IsKeyOf (settled g id node)) ws
keys_settled g id node ws keys = every_map (IsKeyOf g) (IsKeyOf (settled g id node)) ws (λ w k. record { id_is = k.id_is; depth_is = k.depth_is }) keys

-- ---- a node becomes a split
module _ (g : GrowthValue) (id : ℕ) (solved : Option Solved) (branch : Branch) (l r : NodeValue) (growth : IsGrowth g) (later : IsGrowth (parted g id solved branch l r)) where
  abbrev after : GrowthValue
  after = parted g id solved branch l r

  origin_stays : (k : ℕ) → k < length g.nodes → origin_at after k ≡ origin_at g k
  origin_stays k h = in_front g.origins (left_of id branch ∷ right_of id branch ∷ []) k None (let s = growth.size in omega (arith, s, h))

  -- a way stays where that of the parent does
  from_same : (k : ℕ) → k < length g.nodes → (x : Option Origin) → origin_at g k ≡ x → ((o : Origin) → origin_at g k ≡ Some o → way after o.parent ≡ way g o.parent) → way after k ≡ way g k
  from_same k inside None e up = way_none after k (origin_stays k inside ∙ e) ∙ sym (way_none g k e)
  from_same k inside (Some o) e up = way_some after k o later (origin_stays k inside ∙ e) ∙ ap (λ (os : List Origin). o ∷ os) (up o e) ∙ sym (way_some g k o growth e)

  -- the ways of the nodes that were there stay
  way_stays : (n k : ℕ) → k < n → k < length g.nodes → way after k ≡ way g k
  way_stays zero k h inside = absurd (omega arith)
  way_stays (suc n) k h inside = from_same k inside (origin_at g k) refl (λ o e. let below = growth.older k o e in way_stays n o.parent (omega (arith, below, h)) (omega (arith, below, inside)))

  pub depth_stays : (k : ℕ) → k < length g.nodes → length (way after k) ≡ length (way g k)
  depth_stays k h = ap length (way_stays (suc k) k (omega arith) h)

  module _ (inside : id < length g.nodes) where
    -- a child is one step below its parent
    child_depth : (k : ℕ) (o : Origin) → origin_at after k ≡ Some o → o.parent ≡ id → length (way after k) ≡ suc (length (way g id))
    child_depth k o e parent = ap length (way_some after k o later e) ∙ ap suc (ap (λ (j : ℕ). length (way after j)) parent ∙ depth_stays id inside)

    left_depth : length (way after (length g.nodes)) ≡ suc (length (way g id))
    left_depth = child_depth (length g.nodes) _ (first_more g.origins (left_of id branch) (right_of id branch) (length g.nodes) None (sym growth.size)) refl

    right_depth : length (way after (suc (length g.nodes))) ≡ suc (length (way g id))
    right_depth = child_depth (suc (length g.nodes)) _ (second_more g.origins (left_of id branch) (right_of id branch) (length g.nodes) None (sym growth.size)) refl

    -- the keys of those that waited stay right
    keys_stay : (d : DeckValue) (ws : List OpenNode) → Every (WaitsIn d g) ws → Every (IsKeyOf g) ws → Every (IsKeyOf after) ws
    keys_stay d ws waits keys = every_both (WaitsIn d g) (IsKeyOf g) (IsKeyOf after) ws (λ w i k. record { id_is = k.id_is; depth_is = k.depth_is ∙ sym (depth_stays w.node i.fresh.inside) }) waits keys

    -- and so are those of the children
    child_keys : (d : DeckValue) (b : BoxValue) (k depth : ℕ) (y : MultipliersValue) (w : WhatValue) (more : List OpenNode) → length (way after k) ≡ depth → ChildWaits d b k w more → Every (IsEntryUnder k depth y) more → Every (IsKeyOf after) more
    child_keys d b k depth y (Split branch) more is c handed = absurd c
    child_keys d b k depth y (Bounded z) more is c handed = absurd c
    child_keys d b k depth y (Empty z) more is c handed = absurd c
    child_keys d b k depth y (Void column) more is c handed = subst (Every (IsKeyOf after)) (sym c) tt
    child_keys d b k depth y (OpenLeaf z) more is c handed =
        let own = (subst (Every (IsEntryUnder k depth y)) c.1 handed).0 in
        let at = c.2.node in
        let key : IsKeyOf after c.0 = record { id_is = own.id_is ∙ sym at; depth_is = own.depth_is ∙ sym is ∙ ap (λ (j : ℕ). length (way after j)) (sym at) } in
        subst (Every (IsKeyOf after)) (sym c.1) (key, tt)

    pub part_keys : (d : DeckValue) (bl br : BoxValue) (depth : ℕ) (y : MultipliersValue) (ws more_left more_right : List OpenNode) → depth ≡ length (way g id) → ChildWaits d bl (length g.nodes) l.what more_left → ChildWaits d br (suc (length g.nodes)) r.what more_right
        → Every (IsEntryUnder (length g.nodes) (depth + 1) y) more_left → Every (IsEntryUnder (suc (length g.nodes)) (depth + 1) y) more_right → Every (WaitsIn d g) ws → Every (IsKeyOf g) ws → Every (IsKeyOf after) ((ws ++ more_left) ++ more_right)
    part_keys d bl br depth y ws more_left more_right is cl cr hl hr waits keys =
        let deeper : suc (length (way g id)) ≡ depth + 1 = omega (arith, is) in
        every_join (IsKeyOf after) (ws ++ more_left) more_right
        (every_join (IsKeyOf after) ws more_left (keys_stay d ws waits keys) (child_keys d bl (length g.nodes) (depth + 1) y l.what more_left (left_depth ∙ deeper) cl hl))
        (child_keys d br (suc (length g.nodes)) (depth + 1) y r.what more_right (right_depth ∙ deeper) cr hr)
