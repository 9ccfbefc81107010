-- One step over the nodes: what the verdict on the rest says of that on all.
use Rattle.std.proofs.Common.{◌≡◌, ◌≢◌, ℕ, ◌+◌, ◌<◌, ◌≤◌, List, [], ◌∷◌, length, map, drop, get_or, Option, Ok, Err, refl, sym, ap, ◌∙◌, subst, inl, inr, ◌⊎◌}
use Rattle.std.proofs.lemmas.List.{drop_more, drop_all}
use Rattle.std.specs.Prelude.{◌↔◌}
use Rattle.um_model.specs.Values.{DeckValue}
use Rattle.um_model.specs.AnswerValues.{AnswerValue, NodeValue, WhatValue, Split, Bounded, Empty, Void, OpenLeaf, plain_node}
use Rattle.um_model.specs.Boxes.{BoxValue, root}
use Rattle.um_model.specs.Accepted.{First, by_node, LeafVerdict, BranchHolds, NodesVerdict, BoundHolds, boxes_behind, bounds_at, bounds_of}
use Rattle.um_model.specs.declared.tree.Node.{Node}
use Rattle.um_model.specs.declared.verdict.Reason.{Reason}
use Rattle.um_model.specs.declared.verdict.Reason.TheVariants as reason
use Rattle.um_model.specs.declared.verdict.Verdict.{Verdict}
use Rattle.um_model.specs.declared.verdict.Verdict.TheVariants.{Yes, No}
use Rattle.um_check.specs.Bounds.{joined, joined_all, least_of, told}
use Rattle.um_check.specs.Judging.{OnNode, IsVisited, FromBound, OnBound}
use Rattle.um_check.specs.declared.bound.LeastBound.{LeastBound}
use Rattle.um_check.specs.declared.bound.LeastBound.TheVariants.{Nothing, Endless, Least}
use Rattle.um_check.proofs.LeastBounds.{bound_test, joined_append}

-- ---- conditions in their order

-- a condition holds where the verdict is yes
pub passes : {A B : Type 0} {node : Option ℕ} {why : Reason} → A ⊎ (B × (Yes ≡ No node why)) → A
passes (inl a) = a
passes (inr e) = let wrong = e.1 in absurd (cc)

pub no_yes : {node : Option ℕ} {why : Reason} → ¬ (No node why ≡ Yes)
no_yes e = cc

pub on_left : {A B C : Type 0} → A ⊎ C → (A → B) → B ⊎ C
on_left (inl a) f = inl (f a)
on_left (inr c) f = inr c

-- ---- one node

module _ (d : DeckValue) (a : AnswerValue) (b : BoxValue) (place : ℕ) (follows : Verdict → Type 0) where
  leaf_goes_on : (w : WhatValue) (v : Verdict) → LeafVerdict d a b place w (λ u. u ≡ Yes) Yes → follows v → LeafVerdict d a b place w follows v
  leaf_goes_on (Split branch) v h given = given
  leaf_goes_on (Void column) v h given = inl ((passes h).0, given)
  leaf_goes_on (Bounded y) v h given =
      let full = passes h in
      let small = passes full.1 in
      let sign = passes small.1 in
      let holds = passes sign.1 in
      inl (full.0, inl (small.0, inl (sign.0, inl (holds.0, given))))
  leaf_goes_on (Empty y) v h given =
      let full = passes h in
      let small = passes full.1 in
      let sign = passes small.1 in
      let holds = passes sign.1 in
      inl (full.0, inl (small.0, inl (sign.0, inl (holds.0, given))))
  leaf_goes_on (OpenLeaf y) v h given =
      let full = passes h in
      let stopped = passes full.1 in
      let small = passes stopped.1 in
      let sign = passes small.1 in
      inl (full.0, inl (stopped.0, inl (small.0, inl (sign.0, given))))

  leaf_stops : (w : WhatValue) (why : Reason) → LeafVerdict d a b place w (λ u. u ≡ Yes) (by_node place why) → LeafVerdict d a b place w follows (by_node place why)
  leaf_stops (Split branch) why h = absurd (no_yes h)
  leaf_stops (Void column) why h = on_left h (λ p. (p.0, absurd (no_yes p.1)))
  leaf_stops (Bounded y) why h = on_left h (λ p. (p.0, on_left p.1 (λ q. (q.0, on_left q.1 (λ r. (r.0, on_left r.1 (λ s. (s.0, absurd (no_yes s.1)))))))))
  leaf_stops (Empty y) why h = on_left h (λ p. (p.0, on_left p.1 (λ q. (q.0, on_left q.1 (λ r. (r.0, on_left r.1 (λ s. (s.0, absurd (no_yes s.1)))))))))
  leaf_stops (OpenLeaf y) why h = on_left h (λ p. (p.0, on_left p.1 (λ q. (q.0, on_left q.1 (λ r. (r.0, on_left r.1 (λ s. (s.0, absurd (no_yes s.1)))))))))

  node_goes_on : (w : WhatValue) (bound : LeastBound) (v : Verdict) → OnNode d a b w (Ok bound) → follows v → First (BranchHolds d b w) (by_node place reason.Branch) (LeafVerdict d a b place w follows) v
  node_goes_on w bound v h given = let p = passes (h place) in inl (p.0, leaf_goes_on w v p.1 given)

  node_stops : (w : WhatValue) (why : Reason) → OnNode d a b w (Err why) → First (BranchHolds d b w) (by_node place reason.Branch) (LeafVerdict d a b place w follows) (by_node place why)
  node_stops w why h = on_left (h place) (λ p. (p.0, leaf_stops w why p.1))

-- ---- the nodes that are left

-- these boxes wait for these nodes, from this place on, and the leaves before them say this of the bound
pub record IsGoing (d : DeckValue) (a : AnswerValue) (boxes : List BoxValue) (place : ℕ) (nodes : List NodeValue) (least : LeastBound) : Type 0 where
  pub verdict : (v : Verdict) → NodesVerdict d a boxes place nodes (FromBound d a) v → NodesVerdict d a (root d ∷ []) 0 a.tree (FromBound d a) v
  pub bound : joined_all least (bounds_of d boxes nodes) ≡ least_of (bounds_of d (root d ∷ []) a.tree)

pub going_first : (d : DeckValue) (a : AnswerValue) → IsGoing d a (root d ∷ []) 0 a.tree Nothing
going_first d a = record { verdict = λ v h. h; bound = refl }

join_nothing : (least : LeastBound) → least ≡ joined least Nothing
join_nothing Nothing = refl
join_nothing Endless = refl
join_nothing (Least x) = refl

joined_one : (d : DeckValue) (b : BoxValue) (w : WhatValue) (least : LeastBound) → joined_all least (bounds_at d b w) ≡ joined least (least_of (bounds_at d b w))
joined_one d b (Split branch) least = join_nothing least
joined_one d b (Void column) least = join_nothing least
joined_one d b (Bounded y) least = refl
joined_one d b (Empty y) least = join_nothing least
joined_one d b (OpenLeaf y) least = refl

pub going_on : (d : DeckValue) (a : AnswerValue) (boxes after : List BoxValue) (place : ℕ) (n : NodeValue) (ns : List NodeValue) (least bound : LeastBound)
    → IsGoing d a boxes place (n ∷ ns) least → IsVisited d a n.what boxes after (Ok bound) → IsGoing d a after (place + 1) ns (joined least bound)
going_on d a [] after place n ns least bound going visited = absurd visited
going_on d a (b ∷ bs) after place n ns least bound going visited =
    let behind : List BoxValue = boxes_behind d b n.what bs in
    let is : after ≡ behind = visited.2 in
    let gives : bound ≡ least_of (bounds_at d b n.what) = visited.1 in
    record {
      verdict = λ v h.
          going.verdict v
          (node_goes_on d a b place (NodesVerdict d a behind (place + 1) ns (FromBound d a)) n.what bound v visited.0
          (subst (λ (boxes' : List BoxValue). NodesVerdict d a boxes' (place + 1) ns (FromBound d a) v) is h));
      bound =
          (λ i. joined_all (joined least (gives i)) (bounds_of d (is i) ns)) ∙ ap (λ (l : LeastBound). joined_all l (bounds_of d behind ns)) (sym (joined_one d b n.what least))
          ∙ sym (joined_append least (bounds_at d b n.what) (bounds_of d behind ns)) ∙ going.bound;
    }

pub going_stops : (d : DeckValue) (a : AnswerValue) (boxes after : List BoxValue) (place : ℕ) (n : NodeValue) (ns : List NodeValue) (least : LeastBound) (why : Reason) (v : Verdict)
    → IsGoing d a boxes place (n ∷ ns) least → IsVisited d a n.what boxes after (Err why) → v ≡ by_node place why → NodesVerdict d a (root d ∷ []) 0 a.tree (FromBound d a) v
going_stops d a [] after place n ns least why v going visited is = absurd visited
going_stops d a (b ∷ bs) after place n ns least why v going visited is =
    let follows : Verdict → Type 0 = NodesVerdict d a (boxes_behind d b n.what bs) (place + 1) ns (FromBound d a) in
    going.verdict v (subst (λ (u : Verdict). NodesVerdict d a (b ∷ bs) place (n ∷ ns) (FromBound d a) u) (sym is) (node_stops d a b place follows n.what why visited.0))

-- no box waits for the next node
pub one_too_many : (d : DeckValue) (a : AnswerValue) (boxes : List BoxValue) (place : ℕ) (n : NodeValue) (ns : List NodeValue) (least : LeastBound) (v : Verdict)
    → IsGoing d a boxes place (n ∷ ns) least → boxes ≡ [] → v ≡ by_node place reason.Shape → NodesVerdict d a (root d ∷ []) 0 a.tree (FromBound d a) v
one_too_many d a [] place n ns least v going none is = going.verdict v is
one_too_many d a (b ∷ bs) place n ns least v going none is = absurd (cc)

-- a box waits, and no node is left
pub one_missing : (d : DeckValue) (a : AnswerValue) (boxes : List BoxValue) (place : ℕ) (least : LeastBound) (v : Verdict)
    → IsGoing d a boxes place [] least → boxes ≢ [] → v ≡ by_node place reason.Shape → NodesVerdict d a (root d ∷ []) 0 a.tree (FromBound d a) v
one_missing d a [] place least v going some is = absurd (some refl)
one_missing d a (b ∷ bs) place least v going some is = going.verdict v is

from_bound : (d : DeckValue) (a : AnswerValue) (least : LeastBound) (v : Verdict) → least ≡ least_of (bounds_of d (root d ∷ []) a.tree) → OnBound a least v → FromBound d a v
from_bound d a least v is h = go (subst (λ (l : LeastBound). OnBound a l v) is h)
  where
    test : BoundHolds d a ↔ (a.bound ≡ told (least_of (bounds_of d (root d ∷ []) a.tree)))
    test = bound_test (bounds_of d (root d ∷ []) a.tree) a.bound

    go : OnBound a (least_of (bounds_of d (root d ∷ []) a.tree)) v → FromBound d a v
    go (inl g) = inl (test.1 g.0, g.1)
    go (inr g) = inr ((λ holds. g.0 (test.0 holds)), g.1)

-- the nodes are one tree, and its nodes hold
pub all_done : (d : DeckValue) (a : AnswerValue) (boxes : List BoxValue) (place : ℕ) (least : LeastBound) (v : Verdict)
    → IsGoing d a boxes place [] least → boxes ≡ [] → OnBound a least v → NodesVerdict d a (root d ∷ []) 0 a.tree (FromBound d a) v
all_done d a [] place least v going none h = going.verdict v (from_bound d a least v going.bound h)
all_done d a (b ∷ bs) place least v going none h = absurd (cc)

-- ---- the list of nodes

pub no_boxes : (boxes : List BoxValue) → ¬ (boxes ≢ []) → boxes ≡ []
no_boxes [] h = refl
no_boxes (b ∷ bs) h = absurd (h (λ e. cc))

rest_from : (nodes : List Node) (place : ℕ) (n : Node) → place < length nodes → get_or nodes place n ≡ n → map plain_node (drop place nodes) ≡ plain_node n ∷ map plain_node (drop (place + 1) nodes)
rest_from nodes place n inside at = ap (map plain_node) (drop_more nodes place n inside) ∙ ap (λ (m : Node). plain_node m ∷ map plain_node (drop (place + 1) nodes)) at

-- the next node is at this place
pub going_here : (d : DeckValue) (a : AnswerValue) (boxes : List BoxValue) (nodes : List Node) (place : ℕ) (n : Node) (least : LeastBound) → place < length nodes → get_or nodes place n ≡ n
    → IsGoing d a boxes place (map plain_node (drop place nodes)) least → IsGoing d a boxes place (plain_node n ∷ map plain_node (drop (place + 1) nodes)) least
going_here d a boxes nodes place n least inside at = subst (λ (ns : List NodeValue). IsGoing d a boxes place ns least) (rest_from nodes place n inside at)

-- no node is left
pub going_nowhere : (d : DeckValue) (a : AnswerValue) (boxes : List BoxValue) (nodes : List Node) (place : ℕ) (least : LeastBound) → length nodes ≤ place
    → IsGoing d a boxes place (map plain_node (drop place nodes)) least → IsGoing d a boxes place [] least
going_nowhere d a boxes nodes place least end = subst (λ (ns : List NodeValue). IsGoing d a boxes place ns least) (ap (map plain_node) (drop_all place nodes end))
