-- Each act of a search keeps that a node without a number is void, or open, or closed with the multipliers that it was handed.
use Rattle.std.proofs.Common.{◌≡◌, ◌∙◌, ℕ, suc, ◌<◌, List, [], ◌∷◌, ◌++◌, length, slice_index_or, slice_set, Option, Some, None, sym, subst, arith, inl, inr}
use Rattle.std.proofs.Math.ListN.{length-set}
use Rattle.um_model.specs.Values.{DeckValue}
use Rattle.um_model.specs.Boxes.{BoxValue}
use Rattle.um_model.specs.AnswerValues.{NodeValue, WhatValue, Split, Bounded, Empty, Void, OpenLeaf}
use Rattle.um_model.specs.declared.branch.Branch.{Branch}
use Rattle.um_model.specs.declared.tree.Solved.{Solved}
use Rattle.um_laws.proofs.Places.{after_set, below_or}
use Rattle.um_tree.specs.Growths.{GrowthValue, IsGrowth, IsLeaf, node_at, origin_at, no_node, left_of, right_of, parted, settled}
use Rattle.um_tree.specs.declared.growing.Origin.{Origin}
use Rattle.um_tree.proofs.Writes.{in_front, first_more, second_more, size_after, set_length}
use Rattle.um_nodes.specs.declared.open_nodes.OpenNode.{OpenNode}
use Rattle.um_progress.specs.Numbers.{Number}
use Rattle.um_progress.specs.Searches.{IsBounded, ChildWaits}
use Rattle.um_turns.specs.Turns.{Turn}
use Rattle.um_turns.specs.Histories.{History}
use Rattle.um_turns.proofs.Turning.{handed_more}
use Rattle.um_turns.specs.UnnumberedNodes.{MayBeUnsolved, IsUnnumbered, AreUnnumbered}

-- ---- one turn more
what_more : (history : History) (n : Number Turn) (o : Option Origin) (w : WhatValue) → MayBeUnsolved history o w → MayBeUnsolved (history ++ n ∷ []) o w
what_more history n o (Split branch) h = absurd h
what_more history n o (Bounded y) h = handed_more history n o y h
what_more history n o (Empty y) h = absurd h
what_more history n o (Void column) h = tt
what_more history n o (OpenLeaf y) h = tt

pub unnumbered_more : (g : GrowthValue) (history : History) (n : Number Turn) → AreUnnumbered g history → AreUnnumbered g (history ++ n ∷ [])
unnumbered_more g history n all id inside none = what_more history n (origin_at g id) (node_at g id).what (all id inside none)

-- ---- a node becomes this one
pub settled_unnumbered : (g : GrowthValue) (history : History) (id : ℕ) (node : NodeValue) → IsUnnumbered history (origin_at g id) node → AreUnnumbered g history → AreUnnumbered (settled g id node) history
settled_unnumbered g history id node new all j h = elim (after_set g.nodes id j node no_node) [
  | inl r ↦ subst (λ (x : NodeValue). IsUnnumbered history (origin_at g j) x) (sym r.0) (subst (λ (k : ℕ). IsUnnumbered history (origin_at g k) node) (sym r.1) new)
  | inr e ↦ subst (λ (x : NodeValue). IsUnnumbered history (origin_at g j) x) (sym e) (all j (omega (arith, h, length-set g.nodes id node)))
]

-- ---- a new child
-- it may be without a number
child_unsolved : (d : DeckValue) (b : BoxValue) (id : ℕ) (w : WhatValue) (more : List OpenNode) → ChildWaits d b id w more → (history : History) (o : Option Origin) → MayBeUnsolved history o w
child_unsolved d b id (Split branch) more c history o = absurd c
child_unsolved d b id (Bounded y) more c history o = absurd c
child_unsolved d b id (Empty y) more c history o = absurd c
child_unsolved d b id (Void column) more c history o = tt
child_unsolved d b id (OpenLeaf y) more c history o = tt

-- it is a leaf, and not closed
pub child_leaf : (d : DeckValue) (b : BoxValue) (id : ℕ) (w : WhatValue) (more : List OpenNode) → ChildWaits d b id w more → IsLeaf w
child_leaf d b id (Split branch) more c = absurd c
child_leaf d b id (Bounded y) more c = absurd c
child_leaf d b id (Empty y) more c = absurd c
child_leaf d b id (Void column) more c = tt
child_leaf d b id (OpenLeaf y) more c = tt

pub child_unbounded : (d : DeckValue) (b : BoxValue) (id : ℕ) (w : WhatValue) (more : List OpenNode) → ChildWaits d b id w more → ¬ IsBounded w
child_unbounded d b id (Split branch) more c = absurd c
child_unbounded d b id (Bounded y) more c = absurd c
child_unbounded d b id (Empty y) more c = absurd c
child_unbounded d b id (Void column) more c = λ x. x
child_unbounded d b id (OpenLeaf y) more c = λ x. x

-- ---- a node becomes a split, and these are its children
module _ (d : DeckValue) (g : GrowthValue) (history : History) (id : ℕ) (solved : Solved) (branch : Branch) (l r : NodeValue) (growth : IsGrowth g) (inside : id < length g.nodes) where
  abbrev after : GrowthValue
  after = parted g id (Some solved) branch l r

  abbrev whole : NodeValue
  whole = record { solved = Some solved; what = Split branch }

  put : (j : ℕ) (x : NodeValue) → node_at after j ≡ x → IsUnnumbered history (origin_at after j) x → IsUnnumbered history (origin_at after j) (node_at after j)
  put j x is h = subst (IsUnnumbered history (origin_at after j)) (sym is) h

  set_is : length g.nodes ≡ length (slice_set g.nodes id whole)
  set_is = set_length g id (Some solved) branch l r inside

  before_front : (j : ℕ) → j < length g.nodes → node_at after j ≡ slice_index_or (slice_set g.nodes id whole) j no_node
  before_front j h = in_front (slice_set g.nodes id whole) (l ∷ r ∷ []) j no_node (omega (arith, h, set_is))

  origin_stays : (j : ℕ) → j < length g.nodes → origin_at after j ≡ origin_at g j
  origin_stays j h = in_front g.origins (left_of id branch ∷ right_of id branch ∷ []) j None (let s = growth.size in omega (arith, s, h))

  split_numbered : (o : Option Origin) → IsUnnumbered history o whole
  split_numbered o none = absurd (cc)

  module _ (bl br : BoxValue) (more_left more_right : List OpenNode) (cl : ChildWaits d bl (length g.nodes) l.what more_left) (cr : ChildWaits d br (suc (length g.nodes)) r.what more_right) where
    pub parted_unnumbered : AreUnnumbered g history → AreUnnumbered after history
    parted_unnumbered all j h = elim (below_or j (length g.nodes)) [
      | inl below ↦ elim (after_set g.nodes id j whole no_node) [
        | inl s ↦ put j whole (before_front j below ∙ s.0) (split_numbered (origin_at after j))
        | inr e ↦ put j (node_at g j) (before_front j below ∙ e) (subst (λ (o : Option Origin). IsUnnumbered history o (node_at g j)) (sym (origin_stays j below)) (all j below))
      ]
      | inr above ↦ elim (below_or j (suc (length g.nodes))) [
        | inl here ↦
            let at : length g.nodes ≡ j = omega arith in
            subst (λ (k : ℕ). IsUnnumbered history (origin_at after k) (node_at after k)) at
            (put (length g.nodes) l (first_more (slice_set g.nodes id whole) l r (length g.nodes) no_node set_is) (λ _. child_unsolved d bl (length g.nodes) l.what more_left cl history (origin_at after (length g.nodes))))
        | inr more ↦
            let at : suc (length g.nodes) ≡ j = omega (arith, h, more, size_after g id (Some solved) branch l r inside) in
            subst (λ (k : ℕ). IsUnnumbered history (origin_at after k) (node_at after k)) at
            (put (suc (length g.nodes)) r (second_more (slice_set g.nodes id whole) l r (length g.nodes) no_node set_is) (λ _. child_unsolved d br (suc (length g.nodes)) r.what more_right cr history (origin_at after (suc (length g.nodes)))))
      ]
    ]
