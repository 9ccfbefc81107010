-- What a split, a new leaf and a better incumbent keep.
use Rattle.std.proofs.Common.{◌≡◌, ℕ, suc, ◌<◌, ℤ, inl, inr, [], ◌∷◌, length, slice_index_or, slice_set, Option, Some, None, refl, sym, ◌∙◌, subst, arith}
use Rattle.std.specs.Prelude.{IsSomeAnd}
use Rattle.std.proofs.Math.ListN.{length-set}
use Rattle.std.proofs.lemmas.Int.{ints}
use Rattle.um_laws.specs.Rational.{Rational}
use Rattle.um_model.specs.Values.{DeckValue}
use Rattle.um_model.specs.Boxes.{BoxValue}
use Rattle.um_model.specs.Branches.{Fits, left, right}
use Rattle.um_model.specs.LeafValue.{Closes}
use Rattle.um_model.specs.declared.branch.Branch.{Branch}
use Rattle.um_multipliers.specs.PlainMultipliers.{MultipliersValue}
use Rattle.um_model.specs.AnswerValues.{NodeValue, WhatValue, Split, Bounded, Empty, Void, OpenLeaf}
use Rattle.um_model.specs.declared.tree.Solved.{Solved}
use Rattle.um_soundness.proofs.Objectives.{reaches_below}
use Rattle.um_laws.proofs.Places.{after_set, below_or}
use Rattle.um_tree.specs.Growths.{GrowthValue, what_at, no_node, parted, IsGrowth}
use Rattle.um_tree.proofs.Writes.{in_front, first_more, second_more, size_after, set_length}
use Rattle.um_cover.specs.Sites.{box_at}
use Rattle.um_cover.specs.Nodes.{NodeIs, NodesAre, IsImproved}
use Rattle.um_cover.specs.Laws.{PartedLaw, SettledLaw, ImprovedLaw}
use Rattle.um_cover.proofs.Ways.{box_stays, box_of_left, box_of_right}

-- ---- a better incumbent
closes_on : (d : DeckValue) (b : BoxValue) (y : MultipliersValue) (t : ℤ) (v w : Option Rational) → IsImproved v w → IsSomeAnd v (λ x. Closes d b y x t) → IsSomeAnd w (λ x. Closes d b y x t)
closes_on d b y t None w better h = absurd h
closes_on d b y t (Some x) None better h = absurd (better x refl)
closes_on d b y t (Some x) (Some z) better h = record {
  y0 = h.y0;
  value = h.value;
  value_is = h.value_is;
  reaches = reaches_below d y.y0 h.value t z x (let p = h.y0 in omega (arith, ints)) h.reaches (better x refl);
}

pub node_on : (d : DeckValue) (v w : Option Rational) (t : ℤ) (b : BoxValue) (what : WhatValue) → IsImproved v w → NodeIs d v t b what → NodeIs d w t b what
node_on d v w t b (Split branch) better h = h
node_on d v w t b (Bounded y) better h = record { full = h.full; small = h.small; sign = h.sign; closes = closes_on d b y t v w better h.closes }
node_on d v w t b (Empty y) better h = h
node_on d v w t b (Void column) better h = h
node_on d v w t b (OpenLeaf y) better h = h

pub improved-law : ImprovedLaw
improved-law d v w t g better nodes id h = node_on d v w t (box_at d g id) (what_at g id) better (nodes id h)

-- ---- a new leaf
pub settled-law : SettledLaw
settled-law d v t g id node inside nodes new k h = elim (after_set g.nodes id k node no_node) [
  | inl r ↦ subst (λ (x : NodeValue). NodeIs d v t (box_at d g k) x.what) (sym r.0) (subst (λ (j : ℕ). NodeIs d v t (box_at d g j) node.what) (sym r.1) new)
  | inr e ↦ subst (λ (x : NodeValue). NodeIs d v t (box_at d g k) x.what) (sym e) (nodes k (omega (arith, h, length-set g.nodes id node)))
]

-- ---- a split
module _ (d : DeckValue) (v : Option Rational) (t : ℤ) (g : GrowthValue) (id : ℕ) (solved : Option Solved) (branch : Branch) (l r : NodeValue) (growth : IsGrowth g) (inside : id < length g.nodes) where
  abbrev after : GrowthValue
  after = parted g id solved branch l r

  abbrev whole : NodeValue
  whole = record { solved = solved; what = Split branch }

  -- the node at k is this one, and its box is that
  put : (k : ℕ) (b : BoxValue) (x : NodeValue) → box_at d after k ≡ b → slice_index_or after.nodes k no_node ≡ x → NodeIs d v t b x.what → NodeIs d v t (box_at d after k) (what_at after k)
  put k b x eb ex h = subst (λ (c : BoxValue). NodeIs d v t c (what_at after k)) (sym eb) (subst (λ (n : NodeValue). NodeIs d v t b n.what) (sym ex) h)

  set_is : length g.nodes ≡ length (slice_set g.nodes id whole)
  set_is = set_length g id solved branch l r inside

  before_front : (k : ℕ) → k < length g.nodes → slice_index_or after.nodes k no_node ≡ slice_index_or (slice_set g.nodes id whole) k no_node
  before_front k h = in_front (slice_set g.nodes id whole) (l ∷ r ∷ []) k no_node (omega (arith, h, set_is))

  pub parted_nodes : NodesAre d v t g → Fits d (box_at d g id) branch → NodeIs d v t (left d (box_at d g id) branch) l.what → NodeIs d v t (right d (box_at d g id) branch) r.what → NodesAre d v t after
  parted_nodes nodes fits hl hr k h = elim (below_or k (length g.nodes)) [
    | inl below ↦ elim (after_set g.nodes id k whole no_node) [
      | inl s ↦ put k (box_at d g k) whole (box_stays d g id solved branch l r growth k below) (before_front k below ∙ s.0) (subst (λ (j : ℕ). Fits d (box_at d g j) branch) (sym s.1) fits)
      | inr e ↦ put k (box_at d g k) (slice_index_or g.nodes k no_node) (box_stays d g id solved branch l r growth k below) (before_front k below ∙ e) (nodes k below)
    ]
    | inr above ↦ elim (below_or k (suc (length g.nodes))) [
      | inl here ↦
          let at : length g.nodes ≡ k = omega arith in
          subst (λ (j : ℕ). NodeIs d v t (box_at d after j) (what_at after j)) at
          (put (length g.nodes) (left d (box_at d g id) branch) l (box_of_left d g id solved branch l r growth inside) (first_more (slice_set g.nodes id whole) l r (length g.nodes) no_node set_is) hl)
      | inr more ↦
          let at : suc (length g.nodes) ≡ k = omega (arith, h, more, size_after g id solved branch l r inside) in
          subst (λ (j : ℕ). NodeIs d v t (box_at d after j) (what_at after j)) at
          (put (suc (length g.nodes)) (right d (box_at d g id) branch) r (box_of_right d g id solved branch l r growth inside) (second_more (slice_set g.nodes id whole) l r (length g.nodes) no_node set_is) hr)
    ]
  ]

pub parted-law : PartedLaw
parted-law d v t g id solved branch l r growth at nodes fits hl hr = parted_nodes d v t g id solved branch l r growth at.inside nodes fits hl hr
