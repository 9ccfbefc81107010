-- WhatValue an act on one node leaves of the others.
use Rattle.std.proofs.Common.{◌≡◌, ℕ, zero, suc, ◌+◌, ◌<◌, ◌≤◌, pos, ◌*ℤ◌, ◌≤ℤ◌, ◌⊎◌, inl, inr, List, [], ◌∷◌, ◌++◌, length, map, slice_index_or, slice_set, Option, Some, None, refl, sym, ap, ◌∙◌, subst, arith}
use Rattle.std.specs.Prelude.{IsSomeAnd, IfSome}
use Rattle.std.proofs.Math.ListN.{length-set}
use Rattle.std.proofs.lemmas.Int.{ints}
use Rattle.um_laws.specs.Rational.{Rational}
use Rattle.um_laws.proofs.WholeLaws.{*ℤ-mono}
use Rattle.um_laws.proofs.Polynomials.{Polynomial, term, ◌⊗◌, at_most, at_most_of}
use Rattle.um_multipliers.specs.PlainMultipliers.{plain_multipliers}
use Rattle.um_model.specs.Values.{DeckValue}
use Rattle.um_model.specs.Boxes.{BoxValue}
use Rattle.um_model.specs.LeafValue.{leaf_value}
use Rattle.um_model.specs.Accepted.{IsAtMost, bounds_at}
use Rattle.um_model.specs.declared.branch.Branch.{Branch}
use Rattle.um_model.specs.AnswerValues.{NodeValue, Split}
use Rattle.um_model.specs.declared.tree.Solved.{Solved}
use Rattle.um_laws.proofs.Places.{below_or}
use Rattle.um_soundness.proofs.Scaling.{cancel_le}
use Rattle.um_tree.specs.Growths.{GrowthValue, node_at, what_at, no_node, parted, settled, IsGrowth, IsNew}
use Rattle.um_tree.proofs.Writes.{in_front, first_more, second_more, elsewhere, size_after, set_length}
use Rattle.um_cover.specs.Sites.{box_at}
use Rattle.um_cover.specs.Nodes.{OpenIs, bounds_by}
use Rattle.um_cover.proofs.Ways.{box_stays}
use Rattle.um_nodes.specs.declared.open_nodes.OpenNode.{OpenNode}
use Rattle.um_progress.specs.Waits.{Every, IsOpenLeaf, IsFresh, KeyIs, WaitsIn, id_of}
use Rattle.um_progress.specs.Searches.{IsBounded, IsLeastClosed, IsLesser}

-- only this node changes, and what is new has no number and is not Bounded
pub record IsChange (d : DeckValue) (g h : GrowthValue) (id : ℕ) : Type 0 where
  pub size : length g.nodes ≤ length h.nodes
  pub node : (j : ℕ) → j < length g.nodes → ¬ (id ≡ j) → node_at h j ≡ node_at g j
  pub box : (j : ℕ) → j < length g.nodes → box_at d h j ≡ box_at d g j
  pub unsolved : (j : ℕ) → length g.nodes ≤ j → j < length h.nodes → (node_at h j).solved ≡ None
  pub unbounded : (j : ℕ) → length g.nodes ≤ j → j < length h.nodes → ¬ IsBounded (what_at h j)

pub settle_changes : (d : DeckValue) (g : GrowthValue) (id : ℕ) (node : NodeValue) → IsChange d g (settled g id node) id
settle_changes d g id node =
    let size = length-set g.nodes id node in
    record {
      size = omega (arith, size);
      node = λ j h apart. elsewhere g.nodes id j node no_node apart;
      box = λ j h. refl;
      unsolved = λ j h k. absurd (omega (arith, h, k, size));
      unbounded = λ j h k. absurd (omega (arith, h, k, size));
    }

pub split_changes : (d : DeckValue) (g : GrowthValue) (id : ℕ) (solved : Option Solved) (branch : Branch) (l r : NodeValue) → IsGrowth g → id < length g.nodes → l.solved ≡ None → r.solved ≡ None → ¬ IsBounded l.what → ¬ IsBounded r.what
    → IsChange d g (parted g id solved branch l r) id
split_changes d g id solved branch l r growth inside ls rs lb rb =
    let whole : NodeValue = record { solved = solved; what = Split branch } in
    let size = size_after g id solved branch l r inside in
    let set = set_length g id solved branch l r inside in
    let first = first_more (slice_set g.nodes id whole) l r (length g.nodes) no_node set in
    let second = second_more (slice_set g.nodes id whole) l r (length g.nodes) no_node set in
    record {
      size = omega (arith, size);
      node = λ j h apart. in_front (slice_set g.nodes id whole) (l ∷ r ∷ []) j no_node (omega (arith, h, set)) ∙ elsewhere g.nodes id j whole no_node apart;
      box = λ j h. box_stays d g id solved branch l r growth j h;
      unsolved = λ j h k. new_ones (λ (x : NodeValue). x.solved ≡ None) (slice_set g.nodes id whole) j set h (omega (arith, k, size)) ls rs;
      unbounded = λ j h k. new_ones (λ (x : NodeValue). ¬ IsBounded x.what) (slice_set g.nodes id whole) j set h (omega (arith, k, size)) lb rb;
    }
  where
    new_ones : (P : NodeValue → Type 0) (xs : List NodeValue) (j : ℕ) → length g.nodes ≡ length xs → length g.nodes ≤ j → j < length g.nodes + 2 → P l → P r → P (slice_index_or (xs ++ (l ∷ r ∷ [])) j no_node)
    new_ones P xs j e h k pl pr = elim (below_or j (suc (length g.nodes))) [
      | inl here ↦ subst P (sym (first_more xs l r j no_node (omega (arith, e, h, here)))) pl
      | inr more ↦
          let at : suc (length g.nodes) ≡ j = omega (arith, k, more) in
          subst (λ (i : ℕ). P (slice_index_or (xs ++ (l ∷ r ∷ [])) i no_node)) at (subst P (sym (second_more xs l r (length g.nodes) no_node e)) pr)
    ]

-- rational numbers are in order
pub at_most_trans : (x y z : Rational) → IsAtMost x y → IsAtMost y z → IsAtMost x z
at_most_trans x y z a b =
    let X : Polynomial = term x.num in
    let Y : Polynomial = term y.num in
    let Z : Polynomial = term z.num in
    let e : Polynomial = term (pos x.den) in
    let f : Polynomial = term (pos y.den) in
    let g : Polynomial = term (pos z.den) in
    let one : pos 1 ≤ℤ pos y.den = let h = y.positive in omega (arith, ints) in
    let l = *ℤ-mono (pos z.den) (x.num *ℤ pos y.den) (y.num *ℤ pos x.den) (omega (arith, ints)) a in
    let r = *ℤ-mono (pos x.den) (y.num *ℤ pos z.den) (z.num *ℤ pos y.den) (omega (arith, ints)) b in
    cancel_le (pos y.den) (x.num *ℤ pos z.den) (z.num *ℤ pos x.den) one
    (at_most (f ⊗ (X ⊗ g)) (f ⊗ (Z ⊗ e)) (omega (arith, at_most_of (g ⊗ (X ⊗ f)) (g ⊗ (Y ⊗ e)) l, at_most_of (e ⊗ (Y ⊗ g)) (e ⊗ (Z ⊗ f)) r)))

module _ (d : DeckValue) (g h : GrowthValue) (id : ℕ) (c : IsChange d g h id) where
  pub fresh_on : (j : ℕ) → IsFresh g j → ¬ (id ≡ j) → IsFresh h j
  fresh_on j f apart =
      let inside = f.inside in
      let more = c.size in
      record {
        inside = omega arith;
        open_leaf = subst (λ (n : NodeValue). IsOpenLeaf n.what) (sym (c.node j inside apart)) f.open_leaf;
        solved = ap (λ (n : NodeValue). n.solved) (c.node j inside apart) ∙ f.solved;
      }

  waits_on : (w : OpenNode) → WaitsIn d g w → ¬ (id ≡ w.node) → WaitsIn d h w
  waits_on w i apart =
      let box = sym (c.box w.node i.fresh.inside) in
      record {
        fresh = fresh_on w.node i.fresh apart;
        bounds = subst (λ (b : BoxValue). OpenIs d b (plain_multipliers w.y)) box i.bounds;
        key = subst (λ (b : BoxValue). KeyIs (leaf_value d b (plain_multipliers w.y)) w.y.y0 w.key) box i.key;
        size = i.size;
      }

  pub all_wait_on : (ws : List OpenNode) → Every (WaitsIn d g) ws → IsNew id (map id_of ws) → Every (WaitsIn d h) ws
  all_wait_on [] e new = tt
  all_wait_on (w ∷ ws) e new = (waits_on w e.0 new.0, all_wait_on ws e.1 new.1)

  pub bounds_on : (j : ℕ) → j < length g.nodes → ¬ (id ≡ j) → bounds_by d h j ≡ bounds_by d g j
  bounds_on j inside apart = (λ i. bounds_at d (c.box j inside i) (c.node j inside apart i).what)

  -- a node of the later tree is this one, an older one or a new one
  abbrev Which : ℕ → Type 0
  Which j = (id ≡ j) ⊎ (((j < length g.nodes) × (¬ (id ≡ j))) ⊎ (length g.nodes ≤ j))

  pub which : (j : ℕ) → Which j
  which j = elim (same_or id j) [ inl e ↦ inl e | inr apart ↦ elim (below_or j (length g.nodes)) [ inl below ↦ inr (inl (below, apart)) | inr above ↦ inr (inr above) ] ]
    where
      same_or : (a b : ℕ) → (a ≡ b) ⊎ (¬ (a ≡ b))
      same_or zero zero = inl refl
      same_or zero (suc b) = inr (λ e. absurd (omega arith))
      same_or (suc a) zero = inr (λ e. absurd (omega arith))
      same_or (suc a) (suc b) = elim (same_or a b) [ inl e ↦ inl (ap suc e) | inr n ↦ inr (λ e. n (omega arith)) ]

  module _ (was : ¬ IsBounded (what_at g id)) where
    among_on : (x : Rational) → (j : ℕ) × (j < length g.nodes) × IsBounded (what_at g j) × (bounds_by d g j ≡ Some x ∷ []) → (j : ℕ) × (j < length h.nodes) × IsBounded (what_at h j) × (bounds_by d h j ≡ Some x ∷ [])
    among_on x a =
        let apart : ¬ (id ≡ a.0) = λ e. was (subst (λ (k : ℕ). IsBounded (what_at g k)) (sym e) a.2) in
        let more = c.size in
        let inside = a.1 in
        (a.0, omega arith, subst (λ (n : NodeValue). IsBounded n.what) (sym (c.node a.0 a.1 apart)) a.2, bounds_on a.0 a.1 apart ∙ a.3)

    among_all : (least : Option Rational) → IfSome least (λ x. (j : ℕ) × (j < length g.nodes) × IsBounded (what_at g j) × (bounds_by d g j ≡ Some x ∷ [])) → IfSome least (λ x. (j : ℕ) × (j < length h.nodes) × IsBounded (what_at h j) × (bounds_by d h j ≡ Some x ∷ []))
    among_all None a = tt
    among_all (Some x) a = among_on x a

    abbrev HasBelow : Option Rational → ℕ → Type 0
    HasBelow least j = IsSomeAnd least (λ x. (y : Rational) × (bounds_by d h j ≡ Some y ∷ []) × IsAtMost x y)

    below_on : (least : Option Rational) (j : ℕ) → j < length g.nodes → ¬ (id ≡ j) → IsSomeAnd least (λ x. (y : Rational) × (bounds_by d g j ≡ Some y ∷ []) × IsAtMost x y) → HasBelow least j
    below_on None j inside apart a = absurd a
    below_on (Some x) j inside apart a = (a.0, bounds_on j inside apart ∙ a.1, a.2)

    -- the least bound of the Bounded leaves stays where no new one is made
    pub closed_on : (least : Option Rational) → IsLeastClosed d g least → ¬ IsBounded (what_at h id) → IsLeastClosed d h least
    closed_on least k none = record {
      among = among_all least k.among;
      below = λ j inside bounded. elim (which j) [
        | inl e ↦ absurd (none (subst (λ (i : ℕ). IsBounded (what_at h i)) (sym e) bounded))
        | inr rest ↦ elim rest [
          | inl old ↦ below_on least j old.0 old.1 (k.below j old.0 (subst (λ (n : NodeValue). IsBounded n.what) (c.node j old.0 old.1) bounded))
          | inr new ↦ absurd (c.unbounded j new inside bounded)
        ]
      ];
    }

    lesser_first : (x : Rational) → IsAtMost x x
    lesser_first x = omega (arith, ints)

    -- a new Bounded leaf with this bound
    pub closed_more : (least after : Option Rational) (x : Rational) → id < length h.nodes → IsBounded (what_at h id) → bounds_by d h id ≡ Some x ∷ [] → IsLesser least x after → IsLeastClosed d g least → IsLeastClosed d h after
    closed_more least after x inside bounded is (inl new) k = record {
      among = subst (λ (o : Option Rational). IfSome o (λ x. (j : ℕ) × (j < length h.nodes) × IsBounded (what_at h j) × (bounds_by d h j ≡ Some x ∷ []))) (sym new.0) (id, inside, bounded, is);
      below = λ j there at. subst (λ (o : Option Rational). HasBelow o j) (sym new.0) (elim (which j) [
        | inl e ↦ (x, subst (λ (i : ℕ). bounds_by d h i ≡ Some x ∷ []) e is, lesser_first x)
        | inr rest ↦ elim rest [
          | inl old ↦ lower least new.1 j (below_on least j old.0 old.1 (k.below j old.0 (subst (λ (n : NodeValue). IsBounded n.what) (c.node j old.0 old.1) at)))
          | inr fresh ↦ absurd (c.unbounded j fresh there at)
        ]
      ]);
    }
      where
        lower : (least : Option Rational) → IfSome least (λ y. IsAtMost x y) → (j : ℕ) → HasBelow least j → HasBelow (Some x) j
        lower None le j a = absurd a
        lower (Some y) le j a = (a.0, a.1, at_most_trans x y a.0 le a.2)
    closed_more least after x inside bounded is (inr old) k = record {
      among = subst (λ (o : Option Rational). IfSome o (λ x. (j : ℕ) × (j < length h.nodes) × IsBounded (what_at h j) × (bounds_by d h j ≡ Some x ∷ []))) (sym old.0) (among_all least k.among);
      below = λ j there at. subst (λ (o : Option Rational). HasBelow o j) (sym old.0) (elim (which j) [
        | inl e ↦ here least old.1 j (subst (λ (i : ℕ). bounds_by d h i ≡ Some x ∷ []) e is)
        | inr rest ↦ elim rest [
          | inl o ↦ below_on least j o.0 o.1 (k.below j o.0 (subst (λ (n : NodeValue). IsBounded n.what) (c.node j o.0 o.1) at))
          | inr fresh ↦ absurd (c.unbounded j fresh there at)
        ]
      ]);
    }
      where
        here : (least : Option Rational) → IsSomeAnd least (λ y. IsAtMost y x) → (j : ℕ) → bounds_by d h j ≡ Some x ∷ [] → HasBelow least j
        here None le j e = absurd le
        here (Some y) le j e = (x, e, le)
