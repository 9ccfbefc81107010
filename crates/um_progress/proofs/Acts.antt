-- Each act of a search keeps it a search.
use Rattle.std.proofs.Common.{◌≡◌, ℕ, suc, ◌<◌, ◌≤◌, ℤ, inl, inr, List, [], ◌∷◌, ◌++◌, length, map, Option, Some, None, refl, sym, ap, ◌∙◌, subst, arith}
use Rattle.std.proofs.Math.ListN.{length-set}
use Rattle.um_laws.specs.Rational.{Rational}
use Rattle.um_model.specs.Values.{DeckValue}
use Rattle.um_model.specs.Accepted.{bounds_at}
use Rattle.um_model.specs.AnswerValues.{NodeValue, WhatValue, Split, Bounded, Empty, Void, OpenLeaf}
use Rattle.um_laws.proofs.Places.{at_set}
use Rattle.um_tree.specs.Growths.{GrowthValue, node_at, what_at, no_node, settled, IsLeaf, IsAmong, IsNew, AreDistinct}
use Rattle.um_tree.proofs.Writes.{settled_growth}
use Rattle.um_cover.specs.Sites.{box_at}
use Rattle.um_cover.specs.Nodes.{NodeIs, IsImproved}
use Rattle.um_cover.proofs.Keeping.{improved-law, settled-law}
use Rattle.um_nodes.specs.declared.open_nodes.OpenNode.{OpenNode}
use Rattle.um_progress.specs.declared.incumbent.Incumbent.{Incumbent}
use Rattle.um_progress.specs.Waits.{Every, IsOpenLeaf, WaitsIn, id_of}
use Rattle.um_progress.specs.Numbers.{Number, IsNumbered}
use Rattle.um_progress.specs.Searches.{IsIncumbent, IsBounded, IsLeastClosed, IsLesser, IsSearch}
use Rattle.um_progress.specs.Incumbents.{objective_of}
use Rattle.um_progress.proofs.Changes.{IsChange, settle_changes, all_wait_on, which, closed_on, closed_more}
use Rattle.um_progress.proofs.Numbering.{numbered_on, numbered_more}

-- ---- lists of nodes that wait
every_out : {X : Type 0} (P : X → Type 0) (before behind : List X) (x : X) → Every P (before ++ x ∷ behind) → P x × Every P (before ++ behind)
every_out P [] behind x e = e
every_out P (y ∷ ys) behind x e = let r = every_out P ys behind x e.1 in (r.0, (e.0, r.1))

every_in : {X : Type 0} (P : X → Type 0) (xs : List X) (x : X) → Every P xs → P x → Every P (xs ++ x ∷ [])
every_in P [] x e h = (h, tt)
every_in P (y ∷ ys) x e h = (e.0, every_in P ys x e.1 h)

pub every_join : {X : Type 0} (P : X → Type 0) (xs ys : List X) → Every P xs → Every P ys → Every P (xs ++ ys)
every_join P [] ys e f = f
every_join P (x ∷ xs) ys e f = (e.0, every_join P xs ys e.1 f)

pub ids_join : (xs ys : List OpenNode) → map id_of (xs ++ ys) ≡ map id_of xs ++ map id_of ys
ids_join [] ys = refl
ids_join (x ∷ xs) ys = ap (λ (ids : List ℕ). id_of x ∷ ids) (ids_join xs ys)

-- ids: one goes to the front
new_move : (k id : ℕ) (before behind : List ℕ) → IsNew k (before ++ id ∷ behind) → IsNew k (id ∷ (before ++ behind))
new_move k id [] behind n = n
new_move k id (j ∷ js) behind n = let r = new_move k id js behind n.1 in (r.0, (n.0, r.1))

distinct_move : (id : ℕ) (before behind : List ℕ) → AreDistinct (before ++ id ∷ behind) → AreDistinct (id ∷ (before ++ behind))
distinct_move id [] behind d = d
distinct_move id (j ∷ js) behind d =
    let r = distinct_move id js behind d.1 in
    let n = new_move j id js behind d.0 in
    (((λ e. n.0 (sym e)), r.0), (n.1, r.1))

among_move : (k id : ℕ) (before behind : List ℕ) → IsAmong k (before ++ id ∷ behind) → IsAmong k (id ∷ (before ++ behind))
among_move k id [] behind a = a
among_move k id (j ∷ js) behind (inl e) = inr (inl e)
among_move k id (j ∷ js) behind (inr a) = elim (among_move k id js behind a) [ inl e ↦ inl e | inr b ↦ inr (inr b) ]

pub new_last : (k id : ℕ) (ids : List ℕ) → IsNew k ids → ¬ (k ≡ id) → IsNew k (ids ++ id ∷ [])
new_last k id [] n apart = (apart, tt)
new_last k id (j ∷ js) n apart = (n.0, new_last k id js n.1 apart)

pub distinct_last : (id : ℕ) (ids : List ℕ) → AreDistinct ids → IsNew id ids → AreDistinct (ids ++ id ∷ [])
distinct_last id [] d n = (tt, tt)
distinct_last id (j ∷ js) d n = (new_last j id js d.0 (λ e. n.0 (sym e)), distinct_last id js d.1 n.1)

among_last : (k id : ℕ) (ids : List ℕ) → IsAmong k (id ∷ ids) → IsAmong k (ids ++ id ∷ [])
among_last k id [] a = a
among_last k id (j ∷ js) (inl e) = inr (among_last k id js (inl e))
among_last k id (j ∷ js) (inr (inl e)) = inl e
among_last k id (j ∷ js) (inr (inr a)) = inr (among_last k id js (inr a))

-- ---- taking a node, and putting it back
module _ (W : Type 0) (d : DeckValue) (t : ℤ) (history : List (Number W)) (g : GrowthValue) (incumbent : Option Incumbent) (least : Option Rational) where
  pub take_act : (before behind : List OpenNode) (w : OpenNode) → IsSearch W d t history None g (before ++ w ∷ behind) incumbent least → IsSearch W d t history (Some w.node) g (before ++ behind) incumbent least × WaitsIn d g w
  take_act before behind w s =
      let out = every_out (WaitsIn d g) before behind w s.waits in
      let ids : map id_of (before ++ w ∷ behind) ≡ map id_of before ++ w.node ∷ map id_of behind = ids_join before (w ∷ behind) in
      let rest : map id_of (before ++ behind) ≡ map id_of before ++ map id_of behind = ids_join before behind in (
        record {
          growth = s.growth;
          nodes = s.nodes;
          best = s.best;
          waits = out.1;
          distinct = subst (λ (js : List ℕ). AreDistinct (w.node ∷ js)) (sym rest) (distinct_move w.node (map id_of before) (map id_of behind) (subst AreDistinct ids s.distinct));
          in_hand = out.0.fresh;
          all = λ j h o. subst (λ (js : List ℕ). IsAmong j (w.node ∷ js)) (sym rest) (among_move j w.node (map id_of before) (map id_of behind) (subst (IsAmong j) ids (s.all j h o)));
          closed = s.closed;
          numbered = s.numbered;
          size = s.size;
        },
        out.0,
      )

  pub put_back_act : (ws : List OpenNode) (w : OpenNode) → WaitsIn d g w → IsSearch W d t history (Some w.node) g ws incumbent least → IsSearch W d t history None g (ws ++ w ∷ []) incumbent least
  put_back_act ws w in_box s =
      let ids : map id_of (ws ++ w ∷ []) ≡ map id_of ws ++ w.node ∷ [] = ids_join ws (w ∷ []) in
      record {
        growth = s.growth;
        nodes = s.nodes;
        best = s.best;
        waits = every_in (WaitsIn d g) ws w s.waits in_box;
        distinct = subst AreDistinct (sym ids) (distinct_last w.node (map id_of ws) s.distinct.1 s.distinct.0);
        in_hand = tt;
        all = λ j h o. subst (IsAmong j) (sym ids) (among_last j w.node (map id_of ws) (s.all j h o));
        closed = s.closed;
        numbered = s.numbered;
        size = s.size;
      }

-- ---- a better incumbent
pub improve_act : (W : Type 0) (d : DeckValue) (t : ℤ) (history : List (Number W)) (hand : Option ℕ) (g : GrowthValue) (ws : List OpenNode) (old : Option Incumbent) (new : Incumbent) (least : Option Rational)
    → IsIncumbent d new → IsImproved (objective_of old) (Some new.objective) → IsSearch W d t history hand g ws old least → IsSearch W d t history hand g ws (Some new) least
improve_act W d t history hand g ws old new least is better s = record {
  growth = s.growth;
  nodes = improved-law d (objective_of old) (Some new.objective) t g better s.nodes;
  best = is;
  waits = s.waits;
  distinct = s.distinct;
  in_hand = s.in_hand;
  all = s.all;
  closed = s.closed;
  numbered = s.numbered;
  size = s.size;
}

-- ---- the node in hand becomes a leaf
pub open_unbounded : (w : WhatValue) → IsOpenLeaf w → ¬ IsBounded w
open_unbounded (Split branch) o b = o
open_unbounded (Bounded y) o b = o
open_unbounded (Empty y) o b = o
open_unbounded (Void column) o b = o
open_unbounded (OpenLeaf y) o b = absurd b

pub open_leaf : (w : WhatValue) → IsOpenLeaf w → IsLeaf w
open_leaf (Split branch) o = o
open_leaf (Bounded y) o = absurd o
open_leaf (Empty y) o = absurd o
open_leaf (Void column) o = absurd o
open_leaf (OpenLeaf y) o = tt

module _ (W : Type 0) (d : DeckValue) (t : ℤ) (history : List (Number W)) (id : ℕ) (g : GrowthValue) (ws : List OpenNode) (incumbent : Option Incumbent) (least : Option Rational) (s : IsSearch W d t history (Some id) g ws incumbent least) where
  module _ (node : NodeValue) (leaf : IsLeaf node.what) (ended : ¬ IsOpenLeaf node.what) (holds : NodeIs d (objective_of incumbent) t (box_at d g id) node.what) where
    abbrev after : GrowthValue
    after = settled g id node

    change : IsChange d g after id
    change = settle_changes d g id node

    node_is : node_at after id ≡ node
    node_is = at_set g.nodes id node no_node s.in_hand.inside

    inside_after : id < length after.nodes
    inside_after = let h = s.in_hand.inside in omega (arith, h, length-set g.nodes id node)

    pub all_after : (j : ℕ) → j < length after.nodes → IsOpenLeaf (what_at after j) → IsAmong j (map id_of ws)
    all_after j h o = elim (which d g after id change j) [
      | inl e ↦ absurd (ended (subst (λ (n : NodeValue). IsOpenLeaf n.what) node_is (subst (λ (i : ℕ). IsOpenLeaf (what_at after i)) (sym e) o)))
      | inr rest ↦ elim rest [
        | inl old ↦ elim (s.all j old.0 (subst (λ (n : NodeValue). IsOpenLeaf n.what) (change.node j old.0 old.1) o)) [ inl e ↦ absurd (old.1 (sym e)) | inr a ↦ a ]
        | inr new ↦ absurd (omega (arith, h, new, length-set g.nodes id node))
      ]
    ]

    -- with what is known of the numbers and the closed leaves
    pub settle_act : (history' : List (Number W)) (least' : Option Rational) → IsNumbered W after history' → length history ≤ length history' → IsLeastClosed d after least' → IsSearch W d t history' None after ws incumbent least'
    settle_act history' least' numbered more closed = record {
      growth = settled_growth g id node s.in_hand.inside (open_leaf (what_at g id) s.in_hand.open_leaf) leaf s.growth;
      nodes = settled-law d (objective_of incumbent) t g id node s.in_hand.inside s.nodes holds;
      best = s.best;
      waits = all_wait_on d g after id change ws s.waits s.distinct.0;
      distinct = s.distinct.1;
      in_hand = tt;
      all = all_after;
      closed = closed;
      numbered = numbered;
      size = let h = s.size in omega (arith, h, more, length-set g.nodes id node);
    }

    -- without a number
    pub unnumbered : node.solved ≡ None → IsNumbered W after history
    unnumbered none = numbered_on d g after id change history s.in_hand.solved s.numbered (ap (λ (n : NodeValue). n.solved) node_is ∙ none)

    -- with the next number
    pub numbered : (n : Number W) → n.id ≡ id → node.solved ≡ Some (record { number = suc (length history); pivots = n.pivots }) → IsNumbered W after (history ++ n ∷ [])
    numbered n is solved = numbered_more d g after id change history s.in_hand.solved n is inside_after (ap (λ (x : NodeValue). x.solved) node_is ∙ solved) s.numbered

    -- no Bounded leaf more
    pub not_bounded : ¬ IsBounded node.what → IsLeastClosed d after least
    not_bounded none = closed_on d g after id change (open_unbounded (what_at g id) s.in_hand.open_leaf) least s.closed (λ b. none (subst (λ (n : NodeValue). IsBounded n.what) node_is b))

    -- a Bounded leaf with this bound
    pub one_bounded : (x : Rational) (least' : Option Rational) → IsBounded node.what → bounds_at d (box_at d g id) node.what ≡ Some x ∷ [] → IsLesser least x least' → IsLeastClosed d after least'
    one_bounded x least' is bound lesser =
        closed_more d g after id change (open_unbounded (what_at g id) s.in_hand.open_leaf) least least' x inside_after (subst (λ (n : NodeValue). IsBounded n.what) (sym node_is) is)
        (ap (λ (n : NodeValue). bounds_at d (box_at d g id) n.what) node_is ∙ bound) lesser s.closed
