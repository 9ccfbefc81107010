-- The node in hand becomes a split, and its children wait.
use Rattle.std.proofs.Common.{◌≡◌, ℕ, suc, ◌+◌, ◌<◌, ◌≤◌, ℤ, ◌⊎◌, inl, inr, List, [], ◌∷◌, ◌++◌, length, map, slice_set, Option, Some, None, refl, sym, ap, ◌∙◌, subst, arith, length-append}
use Rattle.um_laws.specs.Rational.{Rational}
use Rattle.um_multipliers.specs.PlainMultipliers.{plain_multipliers}
use Rattle.um_model.specs.Values.{DeckValue}
use Rattle.um_model.specs.Boxes.{BoxValue}
use Rattle.um_model.specs.Branches.{Fits, left, right}
use Rattle.um_model.specs.LeafValue.{leaf_value}
use Rattle.um_model.specs.declared.branch.Branch.{Branch}
use Rattle.um_model.specs.AnswerValues.{NodeValue, WhatValue, Split, Bounded, Empty, Void, OpenLeaf}
use Rattle.um_model.specs.declared.tree.Solved.{Solved}
use Rattle.um_laws.proofs.Places.{at_set, below_or}
use Rattle.um_tree.specs.Growths.{GrowthValue, node_at, what_at, no_node, parted, IsLeaf, IsAmong, AreDistinct, AreInside}
use Rattle.um_tree.proofs.Orders.{new_above, inside_more}
use Rattle.um_tree.proofs.Writes.{in_front, first_more, second_more, size_after, set_length, growth_after}
use Rattle.um_cover.specs.Sites.{box_at}
use Rattle.um_cover.specs.Nodes.{OpenIs}
use Rattle.um_cover.proofs.Keeping.{parted-law}
use Rattle.um_cover.proofs.Ways.{box_of_left, box_of_right}
use Rattle.um_nodes.specs.declared.open_nodes.OpenNode.{OpenNode}
use Rattle.um_progress.specs.declared.incumbent.Incumbent.{Incumbent}
use Rattle.um_progress.specs.Waits.{Every, IsOpenLeaf, IsFresh, KeyIs, WaitsIn, id_of}
use Rattle.um_progress.specs.Numbers.{Number}
use Rattle.um_progress.specs.Searches.{IsBounded, IsSearch, ChildWaits, ChildIs}
use Rattle.um_progress.specs.Incumbents.{objective_of}
use Rattle.um_progress.proofs.Changes.{IsChange, split_changes, all_wait_on, which, closed_on}
use Rattle.um_progress.proofs.Numbering.{numbered_more}
use Rattle.um_progress.proofs.Acts.{every_join, ids_join, distinct_last, open_unbounded, open_leaf}

-- ---- one child
child_unbounded : (d : DeckValue) (b : BoxValue) (id : ℕ) (w : WhatValue) (more : List OpenNode) → ChildWaits d b id w more → ¬ IsBounded w
child_unbounded d b id (Split branch) more c = absurd c
child_unbounded d b id (Bounded y) more c = absurd c
child_unbounded d b id (Empty y) more c = absurd c
child_unbounded d b id (Void column) more c = λ x. x
child_unbounded d b id (OpenLeaf y) more c = λ x. x

child_leaf : (d : DeckValue) (b : BoxValue) (id : ℕ) (w : WhatValue) (more : List OpenNode) → ChildWaits d b id w more → IsLeaf w
child_leaf d b id (Split branch) more c = absurd c
child_leaf d b id (Bounded y) more c = absurd c
child_leaf d b id (Empty y) more c = absurd c
child_leaf d b id (Void column) more c = tt
child_leaf d b id (OpenLeaf y) more c = tt

-- the ids that wait for a child: its own, if it is open
abbrev AreOf : ℕ → List OpenNode → WhatValue → Type 0
AreOf id more w = ((map id_of more ≡ []) × ¬ IsOpenLeaf w) ⊎ (map id_of more ≡ id ∷ [])

child_ids : (d : DeckValue) (b : BoxValue) (id : ℕ) (w : WhatValue) (more : List OpenNode) → ChildWaits d b id w more → AreOf id more w
child_ids d b id (Split branch) more c = absurd c
child_ids d b id (Bounded y) more c = absurd c
child_ids d b id (Empty y) more c = absurd c
child_ids d b id (Void column) more c = inl (ap (map id_of) c, λ x. x)
child_ids d b id (OpenLeaf y) more c = inr (ap (map id_of) c.1 ∙ ap (λ (k : ℕ). k ∷ []) c.2.node)

open_of : (d : DeckValue) (b : BoxValue) (id : ℕ) (w : WhatValue) (more : List OpenNode) → ChildWaits d b id w more → (h : GrowthValue) → id < length h.nodes → what_at h id ≡ w → (node_at h id).solved ≡ None → box_at d h id ≡ b → Every (WaitsIn d h) more
open_of d b id (Split branch) more c h inside what solved box = absurd c
open_of d b id (Bounded y) more c h inside what solved box = absurd c
open_of d b id (Empty y) more c h inside what solved box = absurd c
open_of d b id (Void column) more c h inside what solved box = subst (Every (WaitsIn d h)) (sym c) tt
open_of d b id (OpenLeaf y) more c h inside what solved box =
    let here : WaitsIn d h c.0 = record {
      fresh = subst (IsFresh h) (sym c.2.node) (record { inside = inside; open_leaf = subst IsOpenLeaf (sym what) tt; solved = solved });
      bounds = subst (λ (x : BoxValue). OpenIs d x (plain_multipliers c.0.y)) (sym box ∙ ap (box_at d h) (sym c.2.node)) c.2.bounds;
      key = subst (λ (x : BoxValue). KeyIs (leaf_value d x (plain_multipliers c.0.y)) c.0.y.y0 c.0.key) (sym box ∙ ap (box_at d h) (sym c.2.node)) c.2.key;
      size = c.2.size;
    } in
    subst (Every (WaitsIn d h)) (sym c.1) (here, tt)

-- ---- ids with those of a child
inside_join : (n : ℕ) (is js : List ℕ) → AreInside n is → AreInside n js → AreInside n (is ++ js)
inside_join n [] js a b = b
inside_join n (i ∷ is) js a b = (a.0, inside_join n is js a.1 b)

add_nil : (ids : List ℕ) → ids ++ [] ≡ ids
add_nil [] = refl
add_nil (j ∷ js) = ap (λ (ks : List ℕ). j ∷ ks) (add_nil js)

pub record AreApart (n : ℕ) (ids : List ℕ) : Type 0 where
  pub distinct : AreDistinct ids
  pub inside : AreInside n ids

apart_more : (n : ℕ) (ids more : List ℕ) → AreApart n ids → (more ≡ []) ⊎ (more ≡ n ∷ []) → AreApart (suc n) (ids ++ more)
apart_more n ids more a (inl none) = subst (λ (ks : List ℕ). AreApart (suc n) (ids ++ ks)) (sym none) (subst (AreApart (suc n)) (sym (add_nil ids)) (record { distinct = a.distinct; inside = inside_more n (suc n) ids (omega arith) a.inside }))
apart_more n ids more a (inr one) = subst (λ (ks : List ℕ). AreApart (suc n) (ids ++ ks)) (sym one) (record {
  distinct = distinct_last n ids a.distinct (new_above n n ids a.inside (omega arith));
  inside = inside_join (suc n) ids (n ∷ []) (inside_more n (suc n) ids (omega arith) a.inside) (omega arith, tt);
})

among_left : (k : ℕ) (is js : List ℕ) → IsAmong k is → IsAmong k (is ++ js)
among_left k [] js a = absurd a
among_left k (i ∷ is) js (inl e) = inl e
among_left k (i ∷ is) js (inr a) = inr (among_left k is js a)

among_right : (k : ℕ) (is js : List ℕ) → IsAmong k js → IsAmong k (is ++ js)
among_right k [] js a = a
among_right k (i ∷ is) js a = inr (among_right k is js a)

waiting_inside : (d : DeckValue) (g : GrowthValue) (ws : List OpenNode) → Every (WaitsIn d g) ws → AreInside (length g.nodes) (map id_of ws)
waiting_inside d g [] e = tt
waiting_inside d g (w ∷ ws) e = (e.0.fresh.inside, waiting_inside d g ws e.1)

-- ---- the split
module _ (W : Type 0) (d : DeckValue) (t : ℤ) (history : List (Number W)) (id : ℕ) (g : GrowthValue) (ws : List OpenNode) (incumbent : Option Incumbent) (least : Option Rational) (s : IsSearch W d t history (Some id) g ws incumbent least) where
  module _ (number : Number W) (at : number.id ≡ id) (branch : Branch) (fits : Fits d (box_at d g id) branch) (l r : NodeValue) (lmore rmore : List OpenNode)
      (cl : ChildIs d (objective_of incumbent) t (left d (box_at d g id) branch) (length g.nodes) l lmore) (cr : ChildIs d (objective_of incumbent) t (right d (box_at d g id) branch) (suc (length g.nodes)) r rmore) (few : length history < 100000) where
    abbrev solved : Option Solved
    solved = Some (record { number = suc (length history); pivots = number.pivots })

    abbrev after : GrowthValue
    after = parted g id solved branch l r

    abbrev whole : NodeValue
    whole = record { solved = solved; what = Split branch }

    inside : id < length g.nodes
    inside = s.in_hand.inside

    set : length g.nodes ≡ length (slice_set g.nodes id whole)
    set = set_length g id solved branch l r inside

    size : length after.nodes ≡ length g.nodes + 2
    size = size_after g id solved branch l r inside

    leaf : IsLeaf (what_at g id)
    leaf = open_leaf (what_at g id) s.in_hand.open_leaf

    leaf_l : IsLeaf l.what
    leaf_l = child_leaf d (left d (box_at d g id) branch) (length g.nodes) l.what lmore cl.waits

    leaf_r : IsLeaf r.what
    leaf_r = child_leaf d (right d (box_at d g id) branch) (suc (length g.nodes)) r.what rmore cr.waits

    change : IsChange d g after id
    change = split_changes d g id solved branch l r s.growth inside cl.solved cr.solved (child_unbounded d (left d (box_at d g id) branch) (length g.nodes) l.what lmore cl.waits) (child_unbounded d (right d (box_at d g id) branch) (suc (length g.nodes)) r.what rmore cr.waits)

    node_is : node_at after id ≡ whole
    node_is = in_front (slice_set g.nodes id whole) (l ∷ r ∷ []) id no_node (let h = inside in omega (arith, h, set)) ∙ at_set g.nodes id whole no_node inside

    left_is : node_at after (length g.nodes) ≡ l
    left_is = first_more (slice_set g.nodes id whole) l r (length g.nodes) no_node set

    right_is : node_at after (suc (length g.nodes)) ≡ r
    right_is = second_more (slice_set g.nodes id whole) l r (length g.nodes) no_node set

    abbrev ids : List ℕ
    ids = map id_of ws

    all_ids : map id_of ((ws ++ lmore) ++ rmore) ≡ (ids ++ map id_of lmore) ++ map id_of rmore
    all_ids = ids_join (ws ++ lmore) rmore ∙ ap (λ (ks : List ℕ). ks ++ map id_of rmore) (ids_join ws lmore)

    of_left : AreOf (length g.nodes) lmore l.what
    of_left = child_ids d (left d (box_at d g id) branch) (length g.nodes) l.what lmore cl.waits

    of_right : AreOf (suc (length g.nodes)) rmore r.what
    of_right = child_ids d (right d (box_at d g id) branch) (suc (length g.nodes)) r.what rmore cr.waits

    plain_of : (k : ℕ) (more : List OpenNode) (w : WhatValue) → AreOf k more w → (map id_of more ≡ []) ⊎ (map id_of more ≡ k ∷ [])
    plain_of k more w (inl a) = inl a.0
    plain_of k more w (inr e) = inr e

    distinct_after : AreDistinct (map id_of ((ws ++ lmore) ++ rmore))
    distinct_after =
        let a = apart_more (length g.nodes) ids (map id_of lmore) (record { distinct = s.distinct.1; inside = waiting_inside d g ws s.waits }) (plain_of (length g.nodes) lmore l.what of_left) in
        let b = apart_more (suc (length g.nodes)) (ids ++ map id_of lmore) (map id_of rmore) a (plain_of (suc (length g.nodes)) rmore r.what of_right) in
        subst AreDistinct (sym all_ids) b.distinct

    waits_after : Every (WaitsIn d after) ((ws ++ lmore) ++ rmore)
    waits_after = every_join (WaitsIn d after) (ws ++ lmore) rmore
        (every_join (WaitsIn d after) ws lmore (all_wait_on d g after id change ws s.waits s.distinct.0)
        (open_of d (left d (box_at d g id) branch) (length g.nodes) l.what lmore cl.waits after (omega (arith, size)) (ap (λ (n : NodeValue). n.what) left_is) (ap (λ (n : NodeValue). n.solved) left_is ∙ cl.solved) (box_of_left d g id solved branch l r s.growth inside)))
        (open_of d (right d (box_at d g id) branch) (suc (length g.nodes)) r.what rmore cr.waits after (omega (arith, size)) (ap (λ (n : NodeValue). n.what) right_is) (ap (λ (n : NodeValue). n.solved) right_is ∙ cr.solved) (box_of_right d g id solved branch l r s.growth inside))

    own : (k : ℕ) (more : List OpenNode) (w : WhatValue) → AreOf k more w → IsOpenLeaf w → IsAmong k (map id_of more)
    own k more w (inl a) o = absurd (a.1 o)
    own k more w (inr e) o = subst (IsAmong k) (sym e) (inl refl)

    all_after : (j : ℕ) → j < length after.nodes → IsOpenLeaf (what_at after j) → IsAmong j (map id_of ((ws ++ lmore) ++ rmore))
    all_after j h o = subst (IsAmong j) (sym all_ids) (elim (which d g after id change j) [
      | inl e ↦ absurd (subst (λ (n : NodeValue). IsOpenLeaf n.what) node_is (subst (λ (i : ℕ). IsOpenLeaf (what_at after i)) (sym e) o))
      | inr rest ↦ elim rest [
        | inl old ↦ among_left j (ids ++ map id_of lmore) (map id_of rmore) (among_left j ids (map id_of lmore) (elim (s.all j old.0 (subst (λ (n : NodeValue). IsOpenLeaf n.what) (change.node j old.0 old.1) o)) [ inl e ↦ absurd (old.1 (sym e)) | inr a ↦ a ]))
        | inr new ↦ elim (below_or j (suc (length g.nodes))) [
          | inl here ↦
              let e : length g.nodes ≡ j = omega (arith, new, here) in
              subst (λ (i : ℕ). IsAmong i ((ids ++ map id_of lmore) ++ map id_of rmore)) e
              (among_left (length g.nodes) (ids ++ map id_of lmore) (map id_of rmore) (among_right (length g.nodes) ids (map id_of lmore)
              (own (length g.nodes) lmore l.what of_left (subst (λ (n : NodeValue). IsOpenLeaf n.what) left_is (subst (λ (i : ℕ). IsOpenLeaf (what_at after i)) (sym e) o)))))
          | inr more ↦
              let e : suc (length g.nodes) ≡ j = omega (arith, h, more, size) in
              subst (λ (i : ℕ). IsAmong i ((ids ++ map id_of lmore) ++ map id_of rmore)) e
              (among_right (suc (length g.nodes)) (ids ++ map id_of lmore) (map id_of rmore)
              (own (suc (length g.nodes)) rmore r.what of_right (subst (λ (n : NodeValue). IsOpenLeaf n.what) right_is (subst (λ (i : ℕ). IsOpenLeaf (what_at after i)) (sym e) o))))
        ]
      ]
    ])

    -- a search with a number less than 100,000 has room for two nodes more
    pub room : length g.nodes + 2 ≤ 200001
    room = let h = s.size in omega (arith, h, few)

    pub part_act : IsSearch W d t (history ++ number ∷ []) None after ((ws ++ lmore) ++ rmore) incumbent least
    part_act = record {
      growth = growth_after g id solved branch l r inside s.growth leaf leaf_l leaf_r room;
      nodes = parted-law d (objective_of incumbent) t g id solved branch l r s.growth (record { inside = inside; leaf = leaf }) s.nodes fits cl.holds cr.holds;
      best = s.best;
      waits = waits_after;
      distinct = distinct_after;
      in_hand = tt;
      all = all_after;
      closed = closed_on d g after id change (open_unbounded (what_at g id) s.in_hand.open_leaf) least s.closed (λ b. subst (λ (n : NodeValue). IsBounded n.what) node_is b);
      numbered = numbered_more d g after id change history s.in_hand.solved number at (omega (arith, inside, size)) (ap (λ (n : NodeValue). n.solved) node_is) s.numbered;
      size = let h = s.size in omega (arith, h, size, length-append history (number ∷ []));
    }
