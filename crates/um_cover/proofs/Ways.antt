-- The ways up to the root, and what a split leaves of them.
use Rattle.std.proofs.Common.{◌≡◌, ℕ, zero, suc, ◌<◌, ◌≤◌, List, [], ◌∷◌, ◌++◌, length, slice_index_or, Option, Some, None, refl, sym, ap, ◌∙◌, arith}
use Rattle.std.specs.Option.{ForSome}
use Rattle.um_model.specs.Values.{DeckValue}
use Rattle.um_model.specs.Branches.{child}
use Rattle.um_model.specs.declared.branch.Branch.{Branch}
use Rattle.um_model.specs.declared.branch.Side.TheVariants.{Left, Right}
use Rattle.um_model.specs.AnswerValues.{NodeValue}
use Rattle.um_model.specs.declared.tree.Solved.{Solved}
use Rattle.um_tree.specs.declared.growing.Origin.{Origin}
use Rattle.um_tree.specs.Growths.{GrowthValue, origin_at, left_of, right_of, parted, IsGrowth}
use Rattle.um_tree.proofs.Writes.{in_front, first_more, second_more}
use Rattle.um_cover.specs.Sites.{further, way_in, way, box_along, box_at, box_from}

abbrev Older : List (Option Origin) → Type 0
Older origins = (id : ℕ) → ForSome (slice_index_or origins id None) (λ (o : Origin). o.parent < id)

-- two ways on are the same where they are the same for the parent
further_same : (x : Option Origin) (f g : ℕ → List Origin) → ((o : Origin) → x ≡ Some o → f o.parent ≡ g o.parent) → further x f ≡ further x g
further_same None f g h = refl
further_same (Some o) f g h = ap (λ (os : List Origin). o ∷ os) (h o refl)

-- as many steps as the id has are enough
enough : (origins : List (Option Origin)) → Older origins → (m n id : ℕ) → id < m → id < n → way_in m origins id ≡ way_in n origins id
enough origins older zero n id h k = absurd (omega arith)
enough origins older (suc m) zero id h k = absurd (omega arith)
enough origins older (suc m) (suc n) id h k = further_same (slice_index_or origins id None) (way_in m origins) (way_in n origins) (λ o e. let below = older id o e in enough origins older m n o.parent (omega arith) (omega arith))

-- what is appended does not change the ways of those before it
still : (origins more : List (Option Origin)) → Older origins → (n id : ℕ) → id < length origins → way_in n (origins ++ more) id ≡ way_in n origins id
still origins more older zero id h = refl
still origins more older (suc n) id h =
    ap (λ (x : Option Origin). further x (way_in n (origins ++ more))) (in_front origins more id None h)
    ∙ further_same (slice_index_or origins id None) (way_in n (origins ++ more)) (way_in n origins) (λ o e. let below = older id o e in still origins more older n o.parent (omega arith))

pub way_some : (g : GrowthValue) (id : ℕ) (o : Origin) → IsGrowth g → origin_at g id ≡ Some o → way g id ≡ o ∷ way g o.parent
way_some g id o growth e =
    let below = growth.older id o e in
    ap (λ (x : Option Origin). further x (way_in id g.origins)) e ∙ ap (λ (os : List Origin). o ∷ os) (enough g.origins growth.older id (suc o.parent) o.parent below (omega arith))

-- the box of a node is that of where it came from
pub box_is : (d : DeckValue) (g : GrowthValue) (id : ℕ) (x : Option Origin) → IsGrowth g → origin_at g id ≡ x → box_at d g id ≡ box_from d g x
box_is d g id None growth e = ap (λ (x : Option Origin). box_along d (further x (way_in id g.origins))) e
box_is d g id (Some o) growth e = ap (box_along d) (way_some g id o growth e)

module _ (d : DeckValue) (g : GrowthValue) (id : ℕ) (solved : Option Solved) (branch : Branch) (l r : NodeValue) (growth : IsGrowth g) where
  abbrev after : GrowthValue
  after = parted g id solved branch l r

  -- nodes that were there keep their boxes
  pub box_stays : (k : ℕ) → k < length g.nodes → box_at d after k ≡ box_at d g k
  box_stays k h = ap (box_along d) (still g.origins (left_of id branch ∷ right_of id branch ∷ []) growth.older (suc k) k (let s = growth.size in omega (arith, h, s)))

  new_way : (k : ℕ) (o : Origin) → slice_index_or (g.origins ++ (left_of id branch ∷ right_of id branch ∷ [])) k None ≡ Some o → id < length g.nodes → o.parent ≡ id → length g.nodes ≤ k → way after k ≡ o ∷ way g id
  new_way k o e h p le =
      let s = growth.size in
      ap (λ (x : Option Origin). further x (way_in k after.origins)) e
      ∙ ap (λ (os : List Origin). o ∷ os) (still g.origins (left_of id branch ∷ right_of id branch ∷ []) growth.older k o.parent (omega (arith, s, h, p)) ∙ enough g.origins growth.older k (suc id) o.parent (omega (arith, h, p, le)) (omega (arith, p)) ∙ ap (λ (j : ℕ). way_in (suc id) g.origins j) p)

  pub box_of_left : id < length g.nodes → box_at d after (length g.nodes) ≡ child d (box_at d g id) branch Left
  box_of_left h = ap (box_along d) (new_way (length g.nodes) (record { parent = id; branch = branch; side = Left }) (first_more g.origins (left_of id branch) (right_of id branch) (length g.nodes) None (sym growth.size)) h refl (omega arith))

  pub box_of_right : id < length g.nodes → box_at d after (suc (length g.nodes)) ≡ child d (box_at d g id) branch Right
  box_of_right h = ap (box_along d) (new_way (suc (length g.nodes)) (record { parent = id; branch = branch; side = Right }) (second_more g.origins (left_of id branch) (right_of id branch) (length g.nodes) None (sym growth.size)) h refl (omega arith))
