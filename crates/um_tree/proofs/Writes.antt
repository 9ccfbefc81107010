-- What a split and a new leaf write.
use Rattle.std.proofs.Common.{◌≡◌, ℕ, zero, suc, ◌+◌, ◌<◌, ◌≤◌, ◌⊎◌, inl, inr, List, [], ◌∷◌, ◌++◌, length, slice_index_or, slice_set, Option, Some, None, refl, sym, ap, ◌∙◌, subst, arith, length-append}
use Rattle.std.proofs.Math.ListN.{length-set}
use Rattle.um_model.specs.declared.branch.Branch.{Branch}
use Rattle.um_model.specs.AnswerValues.{NodeValue}
use Rattle.um_model.specs.declared.tree.Solved.{Solved}
use Rattle.um_model.specs.AnswerValues.{WhatValue}
use Rattle.um_model.specs.AnswerValues.{Split}
use Rattle.um_laws.proofs.Places.{after_set, at_set, below_or}
use Rattle.um_tree.specs.declared.growing.Origin.{Origin}
use Rattle.um_tree.specs.Growths.{GrowthValue, origin_at, what_at, no_node, IsLeaf, left_of, right_of, parted, settled, AreInOrder, IsAmong, AreInside, IsPreorder, IsGrowth, origins_behind}
use Rattle.um_tree.specs.Links.{AreLinked, IsGrowing}
use Rattle.um_tree.proofs.Orders.{stands_in, inside_split, distinct_split, among_split, length_split, AgreeBut, IsParted, order_split, IsRelinked, links_split, leaf_behind}

-- ---- lists with two more
pub in_front : {X : Type 0} (xs ys : List X) (i : ℕ) (d : X) → i < length xs → slice_index_or (xs ++ ys) i d ≡ slice_index_or xs i d
in_front [] ys i d h = absurd (omega arith)
in_front (x ∷ xs) ys zero d h = refl
in_front (x ∷ xs) ys (suc i) d h = in_front xs ys i d (omega arith)

pub first_more : {X : Type 0} (xs : List X) (a b : X) (n : ℕ) (d : X) → n ≡ length xs → slice_index_or (xs ++ (a ∷ b ∷ [])) n d ≡ a
first_more [] a b zero d e = refl
first_more [] a b (suc n) d e = absurd (omega arith)
first_more (x ∷ xs) a b zero d e = absurd (omega arith)
first_more (x ∷ xs) a b (suc n) d e = first_more xs a b n d (omega arith)

pub second_more : {X : Type 0} (xs : List X) (a b : X) (n : ℕ) (d : X) → n ≡ length xs → slice_index_or (xs ++ (a ∷ b ∷ [])) (suc n) d ≡ b
second_more [] a b zero d e = refl
second_more [] a b (suc n) d e = absurd (omega arith)
second_more (x ∷ xs) a b zero d e = absurd (omega arith)
second_more (x ∷ xs) a b (suc n) d e = second_more xs a b n d (omega arith)

pub none_more : {X : Type 0} (xs : List (Option X)) (a b : Option X) (i : ℕ) → suc (length xs) < i → slice_index_or (xs ++ (a ∷ b ∷ [])) i None ≡ None
none_more [] a b zero h = absurd (omega arith)
none_more [] a b (suc zero) h = absurd (omega arith)
none_more [] a b (suc (suc i)) h = refl
none_more (x ∷ xs) a b zero h = absurd (omega arith)
none_more (x ∷ xs) a b (suc i) h = none_more xs a b i (omega arith)

-- a write at one place leaves the others
pub elsewhere : {X : Type 0} (xs : List X) (i j : ℕ) (v d : X) → ¬ (i ≡ j) → slice_index_or (slice_set xs i v) j d ≡ slice_index_or xs j d
elsewhere xs i j v d n = elim (after_set xs i j v d) [ inl r ↦ absurd (n (sym r.1)) | inr e ↦ e ]

length_two : {X : Type 0} (xs : List X) (a b : X) → length (xs ++ (a ∷ b ∷ [])) ≡ length xs + 2
length_two xs a b = omega (arith, length-append xs (a ∷ b ∷ []))

pub no_leaf : (w : WhatValue) (branch : Branch) → w ≡ Split branch → IsLeaf w → ⊥
no_leaf w branch e h = subst IsLeaf e h

-- ---- a split
module _ (g : GrowthValue) (id : ℕ) (solved : Option Solved) (branch : Branch) (left right : NodeValue) (inside : id < length g.nodes) where
  abbrev after : GrowthValue
  after = parted g id solved branch left right

  abbrev n : ℕ
  n = length g.nodes

  abbrev whole : NodeValue
  whole = record { solved = solved; what = Split branch }

  pub set_length : n ≡ length (slice_set g.nodes id whole)
  set_length = sym (length-set g.nodes id whole)

  agrees : length g.origins ≡ length g.nodes → AgreeBut g after n id
  agrees size = record {
    origin = λ j h. in_front g.origins _ j None (omega (arith, size));
    what = λ j h apart. ap (λ (x : NodeValue). x.what) (in_front (slice_set g.nodes id whole) (left ∷ right ∷ []) j no_node (omega (arith, set_length)) ∙ elsewhere g.nodes id j whole no_node apart);
  }

  pub is_parted : length g.origins ≡ length g.nodes → IsLeaf (what_at g id) → IsLeaf left.what → IsLeaf right.what → IsParted g after n id branch
  is_parted size leaf l r = record {
    agree = agrees size;
    leaf = leaf;
    what = ap (λ (x : NodeValue). x.what) (in_front (slice_set g.nodes id whole) (left ∷ right ∷ []) id no_node (omega (arith, set_length)) ∙ at_set g.nodes id whole no_node inside);
    left = first_more g.origins (left_of id branch) (right_of id branch) n None (sym size);
    right = second_more g.origins (left_of id branch) (right_of id branch) n None (sym size);
    left_leaf = subst (λ (x : NodeValue). IsLeaf x.what) (sym (first_more (slice_set g.nodes id whole) left right n no_node set_length)) l;
    right_leaf = subst (λ (x : NodeValue). IsLeaf x.what) (sym (second_more (slice_set g.nodes id whole) left right n no_node set_length)) r;
  }

  pub size_after : length after.nodes ≡ n + 2
  size_after = omega (arith, length_two (slice_set g.nodes id whole) left right, set_length)

  -- where a node came from: as before, or from the split
  abbrev CameFrom : ℕ → Origin → Type 0
  CameFrom k o = ((k < n) × (origin_at g k ≡ Some o)) ⊎ ((n ≤ k) × (o.parent ≡ id) × (o.branch ≡ branch))

  came_from : length g.origins ≡ length g.nodes → (k : ℕ) (o : Origin) → origin_at after k ≡ Some o → CameFrom k o
  came_from s k o e = elim (below_or k n) [
    | inl below ↦ inl (below, sym (in_front g.origins _ k None (omega (arith, s))) ∙ e)
    | inr above ↦ elim (below_or k (suc n)) [
      | inl here ↦ let is : left_of id branch ≡ Some o = sym (first_more g.origins (left_of id branch) (right_of id branch) k None (omega (arith, s, here, above))) ∙ e in inr (above, cc, cc)
      | inr more ↦ elim (below_or k (suc (suc n))) [
        | inl here ↦
            let at : suc n ≡ k = omega arith in
            let is : right_of id branch ≡ Some o = sym (second_more g.origins (left_of id branch) (right_of id branch) n None (sym s)) ∙ subst (λ (x : ℕ). origin_at after x ≡ Some o) (sym at) e in
            inr (above, cc, cc)
        | inr beyond ↦ let never : None ≡ Some o = sym (none_more g.origins (left_of id branch) (right_of id branch) k (omega (arith, s, beyond))) ∙ e in absurd (cc)
      ]
    ]
  ]

  older_after : IsGrowth g → (k : ℕ) (o : Origin) → origin_at after k ≡ Some o → o.parent < k
  older_after growth k o e = elim (came_from growth.size k o e) [
    | inl old ↦ growth.older k o old.1
    | inr new ↦ let at = new.0 in let p = new.1 in omega arith
  ]

  split_after : IsGrowth g → (leaf : IsLeaf (what_at g id)) → IsLeaf left.what → IsLeaf right.what → (k : ℕ) (o : Origin) → origin_at after k ≡ Some o → what_at after o.parent ≡ Split o.branch
  split_after growth leaf l r k o e =
      let p = is_parted growth.size leaf l r in
      elim (came_from growth.size k o e) [
        | inl old ↦
            let was = growth.split k o old.1 in
            let below = growth.older k o old.1 in
            let under = old.0 in
            p.agree.what o.parent (omega arith) (λ at. no_leaf (what_at g id) o.branch (ap (what_at g) at ∙ was) leaf) ∙ was
        | inr new ↦ subst (λ (j : ℕ). what_at after j ≡ Split o.branch) (sym new.1) (p.what ∙ ap Split (sym new.2))
      ]

  all_after : (before behind : List ℕ) → ((k : ℕ) → k < n → IsAmong k (before ++ id ∷ behind)) → (k : ℕ) → k < n + 2 → IsAmong k (before ++ id ∷ n ∷ suc n ∷ behind)
  all_after before behind all k h = elim (below_or k n) [
    | inl below ↦ among_split n k id before behind (inl (all k below))
    | inr above ↦ elim (below_or k (suc n)) [ inl here ↦ among_split n k id before behind (inr (inl (omega arith))) | inr more ↦ among_split n k id before behind (inr (inr (omega arith))) ]
  ]

  pub growth_after : IsGrowth g → IsLeaf (what_at g id) → IsLeaf left.what → IsLeaf right.what → n + 2 ≤ 200001 → IsGrowth after
  growth_after growth leaf l r room = record {
    size = let s = growth.size in omega (arith, s, size_after, length_two g.origins (left_of id branch) (right_of id branch));
    some = omega (arith, size_after);
    most = omega (arith, size_after);
    older = older_after growth;
    split = split_after growth leaf l r;
  }

  module _ (growth : IsGrowth g) (leaf : IsLeaf (what_at g id)) (l : IsLeaf left.what) (r : IsLeaf right.what) where
    pub preorder_after : (before behind : List ℕ) → IsPreorder g (before ++ id ∷ behind) → IsPreorder after (before ++ id ∷ n ∷ suc n ∷ behind)
    preorder_after before behind p = record {
      order = order_split g after n id branch (is_parted growth.size leaf l r) (None ∷ []) before behind p.inside p.distinct p.order;
      inside = subst (λ (m : ℕ). AreInside m (before ++ id ∷ n ∷ suc n ∷ behind)) (sym size_after) (inside_split n id before behind p.inside);
      distinct = distinct_split n id before behind p.inside p.distinct;
      all = λ k h. all_after before behind p.all k (omega (arith, h, size_after));
      size = let s = p.size in omega (arith, s, size_after, length_split n id before behind);
    }

relinked : (nexts : List (Option ℕ)) (n id : ℕ) → length nexts ≡ n → id < n → IsRelinked nexts (slice_set nexts id (Some n) ++ (Some (suc n) ∷ slice_index_or nexts id None ∷ [])) n id
relinked nexts n id size inside =
    let s : n ≡ length (slice_set nexts id (Some n)) = sym size ∙ sym (length-set nexts id (Some n)) in
    record {
      agree = λ j h apart. in_front (slice_set nexts id (Some n)) (Some (suc n) ∷ slice_index_or nexts id None ∷ []) j None (omega (arith, s)) ∙ elsewhere nexts id j (Some n) None apart;
      here = in_front (slice_set nexts id (Some n)) (Some (suc n) ∷ slice_index_or nexts id None ∷ []) id None (omega (arith, s)) ∙ at_set nexts id (Some n) None (omega (arith, size));
      left = first_more (slice_set nexts id (Some n)) (Some (suc n)) (slice_index_or nexts id None) n None s;
      right = second_more (slice_set nexts id (Some n)) (Some (suc n)) (slice_index_or nexts id None) n None s;
    }

pub split_grows : (g : GrowthValue) (nexts : List (Option ℕ)) (id : ℕ) (solved : Option Solved) (branch : Branch) (left right : NodeValue) → IsGrowing g nexts → id < length g.nodes → IsLeaf (what_at g id) → IsLeaf left.what → IsLeaf right.what
    → length g.nodes + 2 ≤ 200001 → IsGrowing (parted g id solved branch left right) (slice_set nexts id (Some (length g.nodes)) ++ (Some (suc (length g.nodes)) ∷ slice_index_or nexts id None ∷ []))
split_grows g nexts id solved branch left right w inside leaf l r room =
    let s = stands_in id w.ids (w.is.all id inside) in
    let p = subst (IsPreorder g) s.is w.is in
    let n = length g.nodes in
    let links = w.links in
    record {
      growth = growth_after g id solved branch left right inside w.growth leaf l r room;
      links = omega (arith, links, length_two (slice_set nexts id (Some n)) (Some (suc n)) (slice_index_or nexts id None), length-set nexts id (Some n), size_after g id solved branch left right inside);
      ids = s.before ++ id ∷ n ∷ suc n ∷ s.behind;
      is = preorder_after g id solved branch left right inside w.growth leaf l r s.before s.behind p;
      linked = links_split nexts _ n id (relinked nexts n id links inside) (Some 0) s.before s.behind p.inside p.distinct (subst (AreLinked (Some 0) nexts) s.is w.linked);
    }

-- ---- a new leaf
module _ (g : GrowthValue) (id : ℕ) (node : NodeValue) (inside : id < length g.nodes) (old : IsLeaf (what_at g id)) (new : IsLeaf node.what) where
  settled_behind : (j : ℕ) (os : List (Option Origin)) → j < length g.nodes → origins_behind j (what_at (settled g id node) j) os ≡ origins_behind j (what_at g j) os
  settled_behind j os h = elim (after_set g.nodes id j node no_node) [
    | inl r ↦
        let at : what_at g j ≡ what_at g id = ap (λ (x : ℕ). what_at g x) r.1 in
        ap (λ (x : NodeValue). origins_behind j x.what os) r.0 ∙ leaf_behind j node.what os new ∙ sym (leaf_behind j (what_at g id) os old) ∙ ap (λ (w : WhatValue). origins_behind j w os) (sym at)
    | inr e ↦ ap (λ (x : NodeValue). origins_behind j x.what os) e
  ]

  settled_order : (os : List (Option Origin)) (ids : List ℕ) → AreInside (length g.nodes) ids → AreInOrder g os ids → AreInOrder (settled g id node) os ids
  settled_order [] [] i o = tt
  settled_order [] (j ∷ js) i o = absurd o
  settled_order (x ∷ os) [] i o = absurd o
  settled_order (x ∷ os) (j ∷ js) i o = (o.0, subst (λ (rest : List (Option Origin)). AreInOrder (settled g id node) rest js) (sym (settled_behind j os i.0)) (settled_order (origins_behind j (what_at g j) os) js i.1 o.1))

  settled_split : IsGrowth g → (k : ℕ) (o : Origin) → origin_at g k ≡ Some o → what_at (settled g id node) o.parent ≡ Split o.branch
  settled_split growth k o e =
      let was = growth.split k o e in
      ap (λ (x : NodeValue). x.what) (elsewhere g.nodes id o.parent node no_node (λ at. no_leaf (what_at g id) o.branch (ap (what_at g) at ∙ was) old)) ∙ was

  pub settled_growth : IsGrowth g → IsGrowth (settled g id node)
  settled_growth growth = record {
    size = growth.size ∙ sym (length-set g.nodes id node);
    some = let h = growth.some in omega (arith, h, length-set g.nodes id node);
    most = let h = growth.most in omega (arith, h, length-set g.nodes id node);
    older = growth.older;
    split = λ k o e. settled_split growth k o e;
  }

  pub settled_preorder : (ids : List ℕ) → IsPreorder g ids → IsPreorder (settled g id node) ids
  settled_preorder ids p = record {
    order = settled_order (None ∷ []) ids p.inside p.order;
    inside = subst (λ (m : ℕ). AreInside m ids) (sym (length-set g.nodes id node)) p.inside;
    distinct = p.distinct;
    all = λ k h. p.all k (omega (arith, h, length-set g.nodes id node));
    size = p.size ∙ sym (length-set g.nodes id node);
  }

  pub settle_grows : (nexts : List (Option ℕ)) → IsGrowing g nexts → IsGrowing (settled g id node) nexts
  settle_grows nexts w = record {
    growth = settled_growth w.growth;
    links = w.links ∙ sym (length-set g.nodes id node);
    ids = w.ids;
    is = settled_preorder w.ids w.is;
    linked = w.linked;
  }

pub written : (g : GrowthValue) (origins : List (Option Origin)) (nodes : List NodeValue) (news nexts : List (Option ℕ)) (id : ℕ) (solved : Option Solved) (branch : Branch) (left right : NodeValue)
    → origins ≡ g.origins ++ (left_of id branch ∷ right_of id branch ∷ []) → nodes ≡ slice_set g.nodes id (record { solved = solved; what = Split branch }) ++ (left ∷ right ∷ [])
    → news ≡ slice_set nexts id (Some (length g.nodes)) ++ (Some (suc (length g.nodes)) ∷ slice_index_or nexts id None ∷ [])
    → IsGrowing (parted g id solved branch left right) (slice_set nexts id (Some (length g.nodes)) ++ (Some (suc (length g.nodes)) ∷ slice_index_or nexts id None ∷ [])) → IsGrowing (record { origins = origins; nodes = nodes }) news
written g origins nodes news nexts id solved branch left right o n l w = rw o (rw n (rw l w))
