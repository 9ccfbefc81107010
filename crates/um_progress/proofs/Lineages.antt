-- Numbers rise from parents to children, whatever act comes; and so they do in the list that the tree tells.
use Rattle.std.proofs.Common.{◌≡◌, ℕ, zero, suc, ◌<◌, ◌≤◌, inl, inr, List, [], ◌∷◌, length, map, slice_get, slice_index_or, slice_set, Option, Some, None, refl, sym, ap, ◌∙◌, subst, arith}
use Rattle.std.specs.Prelude.{All, IsSome, IfSome, option_map}
use Rattle.std.proofs.Math.ListN.{length-set}
use Rattle.um_model.specs.Values.{DeckValue}
use Rattle.um_model.specs.declared.branch.Branch.{Branch}
use Rattle.um_model.specs.AnswerValues.{NodeValue, Split}
use Rattle.um_model.specs.declared.tree.Solved.{Solved}
use Rattle.um_laws.proofs.Places.{at_set, below_or}
use Rattle.um_tree.specs.declared.growing.Origin.{Origin}
use Rattle.um_tree.specs.Growths.{GrowthValue, origin_at, node_at, what_at, no_node, settled, IsLeaf, IsGrowth, IsTold, AreInside, parted}
use Rattle.um_tree.proofs.Orders.{IsParted}
use Rattle.um_tree.proofs.Writes.{no_leaf, is_parted, in_front, size_after}
use Rattle.um_cover.proofs.Handed.{site_at, handed_is, sites-law}
use Rattle.um_progress.specs.Waits.{IsFresh}
use Rattle.um_progress.specs.Numbers.{Number, IsNumbered}
use Rattle.um_progress.specs.Lineage.{number_of, parent_numbers, IsAboveParent, NumbersRise, IsLineage}
use Rattle.um_progress.proofs.Acts.{open_leaf}
use Rattle.um_progress.proofs.Changes.{IsChange, settle_changes, which, split_changes}
use Rattle.um_progress.specs.Searches.{IsBounded}

-- ---- from ids to the list
all_map : {X Y : Type 0} (P : Y → Type 0) (f : X → Y) (xs : List X) → ((k : ℕ) (x : X) → k < length xs → slice_index_or xs k x ≡ x → P (f x)) → All P (map f xs)
all_map P f [] each k default h = absurd (omega arith)
all_map P f (x ∷ xs) each zero default h = each 0 x (omega arith) refl
all_map P f (x ∷ xs) each (suc k) default h = all_map P f xs (λ j z below at. each (suc j) z (omega arith) at) k default (omega arith)

inside_of : (n : ℕ) (ids : List ℕ) (k id : ℕ) → AreInside n ids → k < length ids → slice_index_or ids k id ≡ id → id < n
inside_of n [] k id i h e = absurd (omega arith)
inside_of n (j ∷ js) zero id i h e = subst (λ (x : ℕ). x < n) e i.0
inside_of n (j ∷ js) (suc k) id i h e = inside_of n js k id i.1 (omega arith) e

pub rise_told : (g : GrowthValue) (ns : List NodeValue) → IsGrowth g → IsLineage g → IsTold g ns → NumbersRise ns
rise_told g ns growth l t = subst (All IsAboveParent) (sym (sites-law parent_numbers g ns growth t)) (all_map IsAboveParent (site_at parent_numbers g) t.ids (λ k id h e. one id (inside_of (length g.nodes) t.ids k id t.is.inside h e) (origin_at g id) refl))
  where
    one : (id : ℕ) → id < length g.nodes → (x : Option Origin) → origin_at g id ≡ x → IsAboveParent (site_at parent_numbers g id)
    one id h None e n is = subst (λ (p : Option ℕ). IfSome p (λ p. p < n)) (sym (handed_is parent_numbers g growth id None e)) tt
    one id h (Some o) e n is = subst (λ (p : Option ℕ). IfSome p (λ p. p < n)) (sym (handed_is parent_numbers g growth id (Some o) e)) (below (number_of (node_at g o.parent)) refl)
      where
        below : (p : Option ℕ) → number_of (node_at g o.parent) ≡ p → IfSome p (λ p. p < n)
        below None f = tt
        below (Some p) f = l.above id o p n h e f is

-- ---- what an act keeps
-- a parent is a split, and no leaf that is in hand
parent_apart : (g : GrowthValue) (id j : ℕ) (o : Origin) → IsGrowth g → IsFresh g id → origin_at g j ≡ Some o → ¬ (id ≡ o.parent)
parent_apart g id j o growth fresh e same = no_leaf (what_at g id) o.branch (ap (what_at g) same ∙ growth.split j o e) (open_leaf (what_at g id) fresh.open_leaf)

-- the numbers so far are at most as many as there are
get_inside : {X : Type 0} (xs : List X) (k : ℕ) (x : X) → slice_get xs k ≡ Some x → k < length xs
get_inside [] k x e = absurd (cc)
get_inside (y ∷ ys) zero x e = omega arith
get_inside (y ∷ ys) (suc k) x e = let h = get_inside ys k x e in omega arith

solved_of : (s : Option Solved) (n : ℕ) → option_map (λ (x : Solved). x.number) s ≡ Some n → (x : Solved) × (s ≡ Some x) × (x.number ≡ n)
solved_of None n e = absurd (cc)
solved_of (Some x) n e = (x, refl, cc)

pub number_within : (W : Type 0) (g : GrowthValue) (history : List (Number W)) (id n : ℕ) → IsNumbered W g history → id < length g.nodes → number_of (node_at g id) ≡ Some n → n ≤ length history
number_within W g history id n k h e =
    let s = solved_of (node_at g id).solved n e in
    let b = k.only id h s.0 s.1 in
    let inside = get_inside history b.0 b.1 b.2 in
    let at = ap (λ (x : Solved). x.number) b.4 in
    let is = s.2 in
    omega arith

-- the node in hand becomes a leaf, with the next number or without one
pub settle_lineage : (W : Type 0) (d : DeckValue) (g : GrowthValue) (history : List (Number W)) (id : ℕ) (node : NodeValue) → IsGrowth g → IsNumbered W g history → IsFresh g id → IsLeaf node.what → ((n : ℕ) → number_of node ≡ Some n → n ≡ suc (length history))
    → IsLineage g → IsLineage (settled g id node)
settle_lineage W d g history id node growth numbered fresh leaf next l = record {
  splits = λ j branch h e. elim (which d g (settled g id node) id change j) [
    | inl same ↦ absurd (no_leaf node.what branch (ap (λ (n : NodeValue). n.what) (sym node_is) ∙ ap (what_at (settled g id node)) same ∙ e) leaf)
    | inr rest ↦ elim rest [
      | inl old ↦ subst (λ (n : NodeValue). IsSome (number_of n)) (sym (change.node j old.0 old.1)) (l.splits j branch old.0 (sym (ap (λ (n : NodeValue). n.what) (change.node j old.0 old.1)) ∙ e))
      | inr new ↦ absurd (omega (arith, h, new, length-set g.nodes id node))
    ]
  ];
  above = λ j o p n h e parent own.
      let inside : j < length g.nodes = omega (arith, h, length-set g.nodes id node) in
      let older = growth.older j o e in
      let under : o.parent < length g.nodes = omega arith in
      let at = change.node o.parent under (parent_apart g id j o growth fresh e) in
      let parent' = ap number_of (sym at) ∙ parent in
      elim (which d g (settled g id node) id change j) [
        | inl same ↦
            let q = number_within W g history o.parent p numbered under parent' in
            let r = next n (ap number_of (sym node_is) ∙ ap (λ (k : ℕ). number_of (node_at (settled g id node) k)) same ∙ own) in
            omega arith
        | inr rest ↦ elim rest [
          | inl old ↦ l.above j o p n old.0 e parent' (ap number_of (sym (change.node j old.0 old.1)) ∙ own)
          | inr new ↦ absurd (omega (arith, inside, new))
        ]
      ];
}
  where
    change : IsChange d g (settled g id node) id
    change = settle_changes d g id node

    node_is : node_at (settled g id node) id ≡ node
    node_is = at_set g.nodes id node no_node fresh.inside

-- ---- the node in hand becomes a split with the next number
module _ (W : Type 0) (d : DeckValue) (g : GrowthValue) (history : List (Number W)) (id pivots : ℕ) (branch : Branch) (l r : NodeValue) (growth : IsGrowth g) (numbered : IsNumbered W g history) (fresh : IsFresh g id) (ls : l.solved ≡ None) (rs : r.solved ≡ None) (ll : IsLeaf l.what) (rl : IsLeaf r.what)
    (lb : ¬ IsBounded l.what) (rb : ¬ IsBounded r.what) (lineage : IsLineage g) where
  abbrev solved : Option Solved
  solved = Some (record { number = suc (length history); pivots = pivots })

  abbrev after : GrowthValue
  after = parted g id solved branch l r

  abbrev whole : NodeValue
  whole = record { solved = solved; what = Split branch }

  change : IsChange d g after id
  change = split_changes d g id solved branch l r growth fresh.inside ls rs lb rb

  leaf : IsLeaf (what_at g id)
  leaf = open_leaf (what_at g id) fresh.open_leaf

  parted_as : IsParted g after (length g.nodes) id branch
  parted_as = is_parted g id solved branch l r fresh.inside growth.size leaf ll rl

  node_is : node_at after id ≡ whole
  node_is = in_front (slice_set g.nodes id whole) (l ∷ r ∷ []) id no_node (let h = fresh.inside in omega (arith, h, length-set g.nodes id whole)) ∙ at_set g.nodes id whole no_node fresh.inside

  new_unsplit : (j : ℕ) (b : Branch) → length g.nodes ≤ j → j < length after.nodes → ¬ (what_at after j ≡ Split b)
  new_unsplit j b h k e = elim (below_or j (suc (length g.nodes))) [
    | inl here ↦ let at : length g.nodes ≡ j = omega arith in no_leaf (what_at after (length g.nodes)) b (ap (what_at after) at ∙ e) parted_as.left_leaf
    | inr more ↦ let at : suc (length g.nodes) ≡ j = omega (arith, k, more, size_after g id solved branch l r fresh.inside) in no_leaf (what_at after (suc (length g.nodes))) b (ap (what_at after) at ∙ e) parted_as.right_leaf
  ]

  pub part_lineage : IsLineage after
  part_lineage = record {
    splits = λ j b h e. elim (which d g after id change j) [
      | inl same ↦ subst (λ (k : ℕ). IsSome (number_of (node_at after k))) same (subst (λ (n : NodeValue). IsSome (number_of n)) (sym node_is) refl)
      | inr rest ↦ elim rest [
        | inl old ↦ subst (λ (n : NodeValue). IsSome (number_of n)) (sym (change.node j old.0 old.1)) (lineage.splits j b old.0 (sym (ap (λ (n : NodeValue). n.what) (change.node j old.0 old.1)) ∙ e))
        | inr new ↦ absurd (new_unsplit j b new h e)
      ]
    ];
    above = λ j o p n h e parent own. elim (which d g after id change j) [
      | inr rest ↦ elim rest [
        | inl old ↦ old_above j o p n old.0 e parent (ap number_of (sym (change.node j old.0 old.1)) ∙ own)
        | inr new ↦ let none : number_of (node_at after j) ≡ None = ap (λ (s : Option Solved). option_map (λ (x : Solved). x.number) s) (change.unsolved j new h) in absurd (cc)
      ]
      | inl same ↦
          let inside : j < length g.nodes = let f = fresh.inside in omega (arith, f, same) in
          let was : origin_at g j ≡ Some o = sym (parted_as.agree.origin j inside) ∙ e in
          let older = growth.older j o was in
          let under : o.parent < length g.nodes = omega arith in
          let parent' = ap number_of (sym (change.node o.parent under (parent_apart g id j o growth fresh was))) ∙ parent in
          let q = number_within W g history o.parent p numbered under parent' in
          let own' : Some (suc (length history)) ≡ Some n = sym (ap number_of node_is) ∙ ap (λ (k : ℕ). number_of (node_at after k)) same ∙ own in
          let r : suc (length history) ≡ n = cc in
          omega arith
    ];
  }
    where
      old_above : (j : ℕ) (o : Origin) (p n : ℕ) → j < length g.nodes → origin_at after j ≡ Some o → number_of (node_at after o.parent) ≡ Some p → number_of (node_at g j) ≡ Some n → p < n
      old_above j o p n inside e parent own =
          let was : origin_at g j ≡ Some o = sym (parted_as.agree.origin j inside) ∙ e in
          let older = growth.older j o was in
          let under : o.parent < length g.nodes = omega arith in
          lineage.above j o p n inside was (ap number_of (sym (change.node o.parent under (parent_apart g id j o growth fresh was))) ∙ parent) own
