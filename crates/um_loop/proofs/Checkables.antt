-- Each act of a search keeps that the nodes of its tree speak of rows and columns that the deck has.
use Rattle.std.proofs.Common.{◌≡◌, ◌∙◌, ℕ, suc, ◌<◌, [], ◌∷◌, length, slice_index_or, slice_set, Option, sym, subst, arith, inl, inr}
use Rattle.std.proofs.Math.ListN.{length-set}
use Rattle.um_model.specs.Values.{DeckValue}
use Rattle.um_model.specs.AnswerValues.{NodeValue, Split}
use Rattle.um_model.specs.Checkable.{IsCheckableWhat}
use Rattle.um_model.specs.declared.branch.Branch.{Branch}
use Rattle.um_model.specs.declared.tree.Solved.{Solved}
use Rattle.um_laws.proofs.Places.{after_set, below_or}
use Rattle.um_tree.specs.Growths.{GrowthValue, what_at, no_node, parted, settled}
use Rattle.um_tree.proofs.Writes.{in_front, first_more, second_more, size_after, set_length}
use Rattle.um_loop.specs.Checkables.{AreCheckable}

-- a node becomes this one
pub checkable_on : (d : DeckValue) (g : GrowthValue) (id : ℕ) (node : NodeValue) → IsCheckableWhat d node.what → AreCheckable d g → AreCheckable d (settled g id node)
checkable_on d g id node new all k h = elim (after_set g.nodes id k node no_node) [
  | inl r ↦ subst (λ (x : NodeValue). IsCheckableWhat d x.what) (sym r.0) new
  | inr e ↦ subst (λ (x : NodeValue). IsCheckableWhat d x.what) (sym e) (all k (omega (arith, h, length-set g.nodes id node)))
]

-- a node becomes a split, and these are its children
module _ (d : DeckValue) (g : GrowthValue) (id : ℕ) (solved : Option Solved) (branch : Branch) (l r : NodeValue) (inside : id < length g.nodes) where
  abbrev after : GrowthValue
  after = parted g id solved branch l r

  abbrev whole : NodeValue
  whole = record { solved = solved; what = Split branch }

  put : (k : ℕ) (x : NodeValue) → slice_index_or after.nodes k no_node ≡ x → IsCheckableWhat d x.what → IsCheckableWhat d (what_at after k)
  put k x is h = subst (λ (n : NodeValue). IsCheckableWhat d n.what) (sym is) h

  set_is : length g.nodes ≡ length (slice_set g.nodes id whole)
  set_is = set_length g id solved branch l r inside

  before_front : (k : ℕ) → k < length g.nodes → slice_index_or after.nodes k no_node ≡ slice_index_or (slice_set g.nodes id whole) k no_node
  before_front k h = in_front (slice_set g.nodes id whole) (l ∷ r ∷ []) k no_node (omega (arith, h, set_is))

  pub checkable_parted : IsCheckableWhat d l.what → IsCheckableWhat d r.what → AreCheckable d g → AreCheckable d after
  checkable_parted hl hr all k h = elim (below_or k (length g.nodes)) [
    | inl below ↦ elim (after_set g.nodes id k whole no_node) [
      | inl s ↦ put k whole (before_front k below ∙ s.0) tt
      | inr e ↦ put k (slice_index_or g.nodes k no_node) (before_front k below ∙ e) (all k below)
    ]
    | inr above ↦ elim (below_or k (suc (length g.nodes))) [
      | inl here ↦
          let at : length g.nodes ≡ k = omega arith in
          subst (λ (j : ℕ). IsCheckableWhat d (what_at after j)) at (put (length g.nodes) l (first_more (slice_set g.nodes id whole) l r (length g.nodes) no_node set_is) hl)
      | inr more ↦
          let at : suc (length g.nodes) ≡ k = omega (arith, h, more, size_after g id solved branch l r inside) in
          subst (λ (j : ℕ). IsCheckableWhat d (what_at after j)) at (put (suc (length g.nodes)) r (second_more (slice_set g.nodes id whole) l r (length g.nodes) no_node set_is) hr)
    ]
  ]
