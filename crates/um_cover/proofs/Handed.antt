-- The sites of a told tree are those of its nodes by id.
use Rattle.std.proofs.Common.{◌≡◌, ℕ, List, [], ◌∷◌, map, Option, Some, None, refl, sym, ap, ◌∙◌}
use Rattle.um_model.specs.AnswerValues.{NodeValue, WhatValue, Split, Bounded, Empty, Void, OpenLeaf}
use Rattle.um_tree.specs.declared.growing.Origin.{Origin}
use Rattle.um_tree.specs.Growths.{GrowthValue, node_at, what_at, origin_at, origins_behind, AreInOrder, IsGrowth, IsTold}
use Rattle.um_cover.specs.Sites.{further, way, way_in}
use Rattle.um_cover.specs.Handing.{Handing, Site, waiting_behind, sites, sites_of}
use Rattle.um_cover.proofs.Ways.{way_some}

-- what the node at the lower end of a way was handed
abbrev pub handed_along : {W : Type 0} → Handing W → GrowthValue → List Origin → W
handed_along h g [] = h.first
handed_along h g (o ∷ os) = h.child (handed_along h g os) (node_at g o.parent) o.branch o.side

-- what a node was handed
abbrev pub handed_at : {W : Type 0} → Handing W → GrowthValue → ℕ → W
handed_at h g id = handed_along h g (way g id)

-- a node of a growing tree with what it was handed
abbrev pub site_at : {W : Type 0} → Handing W → GrowthValue → ℕ → Site W
site_at h g id = record { has = handed_at h g id; node = node_at g id }

module _ {W : Type 0} (h : Handing W) (g : GrowthValue) (growth : IsGrowth g) where
  abbrev pub handed_from : Option Origin → W
  handed_from None = h.first
  handed_from (Some o) = h.child (handed_at h g o.parent) (node_at g o.parent) o.branch o.side

  pub handed_is : (id : ℕ) (x : Option Origin) → origin_at g id ≡ x → handed_at h g id ≡ handed_from x
  handed_is id None e = ap (λ (x : Option Origin). handed_along h g (further x (way_in id g.origins))) e
  handed_is id (Some o) e = ap (handed_along h g) (way_some g id o growth e)

  waits_same : (id : ℕ) (what : WhatValue) (os : List (Option Origin)) → waiting_behind h (handed_at h g id) (node_at g id) what (map handed_from os) ≡ map handed_from (origins_behind id what os)
  waits_same id (Split branch) os = refl
  waits_same id (Bounded y) os = refl
  waits_same id (Empty y) os = refl
  waits_same id (Void column) os = refl
  waits_same id (OpenLeaf y) os = refl

  sites_are : (os : List (Option Origin)) (ids : List ℕ) → AreInOrder g os ids → sites h (map handed_from os) (map (node_at g) ids) ≡ map (site_at h g) ids
  sites_are [] [] o = refl
  sites_are [] (id ∷ ids) o = absurd o
  sites_are (x ∷ os) [] o = absurd o
  sites_are (x ∷ os) (id ∷ ids) o =
      ap (λ (w : W). sites h (w ∷ map handed_from os) (map (node_at g) (id ∷ ids))) (sym (handed_is id x o.0))
      ∙ ap (λ (ws : List W). site_at h g id ∷ sites h ws (map (node_at g) ids)) (waits_same id (what_at g id) os)
      ∙ ap (λ (ss : List (Site W)). site_at h g id ∷ ss) (sites_are (origins_behind id (what_at g id) os) ids o.1)

-- what is said of the list that a tree tells is said of its nodes by id
pub sites-law : {W : Type 0} (h : Handing W) (g : GrowthValue) (ns : List NodeValue) → IsGrowth g → (t : IsTold g ns) → sites_of h ns ≡ map (site_at h g) t.ids
sites-law h g ns growth t = ap (sites_of h) t.tree_is ∙ sites_are h g growth (None ∷ []) t.ids t.is.order
