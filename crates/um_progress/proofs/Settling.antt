-- The acts by cases of what the node in hand becomes, and whether it has a number.
use Rattle.std.proofs.Common.{◌≡◌, ℕ, ◌+◌, ◌<◌, ◌≤◌, ℤ, Bool, false, List, [], ◌∷◌, ◌++◌, length, Option, Some, None, refl, sym, ap, ◌∙◌, subst, arith, length-append}
use Rattle.um_laws.specs.Rational.{Rational}
use Rattle.um_multipliers.specs.PlainMultipliers.{MultipliersValue}
use Rattle.um_model.specs.Values.{DeckValue}
use Rattle.um_model.specs.Boxes.{BoxValue, root}
use Rattle.um_model.specs.LeafValue.{leaf_value}
use Rattle.um_model.specs.Accepted.{ToleranceHolds, IsAccepted, bound_in, bounds_at}
use Rattle.um_model.specs.AnswerValues.{NodeValue, WhatValue, Split, Bounded, Empty, Void, OpenLeaf, kind_of_stop}
use Rattle.um_model.specs.declared.answer.AnswerKind.{AnswerKind}
use Rattle.um_model.specs.declared.answer.Why.{Why}
use Rattle.um_model.specs.declared.tree.Solved.{Solved}
use Rattle.um_tree.specs.Growths.{GrowthValue, IsLeaf, IsTold, settled}
use Rattle.um_tree.proofs.Starts.{one_grows}
use Rattle.um_cover.specs.Sites.{box_at}
use Rattle.um_cover.specs.Nodes.{NodeIs, OpenIs}
use Rattle.um_cover.proofs.Covering.{accepted-law}
use Rattle.um_nodes.specs.Taking.{IsTaken}
use Rattle.um_nodes.specs.declared.open_nodes.OpenNode.{OpenNode}
use Rattle.um_progress.specs.declared.incumbent.Incumbent.{Incumbent}
use Rattle.um_progress.specs.Waits.{IsOpenLeaf, WaitsIn}
use Rattle.um_progress.specs.Numbers.{Number, IsNumbered, IsNext}
use Rattle.um_progress.specs.Searches.{IsBounded, IsLeastClosed, IsSearch, IsEntryOf, Settles}
use Rattle.um_progress.specs.Incumbents.{objective_of}
use Rattle.um_progress.specs.Stops.{Counts, IsStopping, bound_of}
use Rattle.um_progress.specs.Ends.{rooted, optimal, infeasible, stopped}
use Rattle.um_progress.proofs.Acts.{take_act, settle_act, unnumbered, numbered, not_bounded, one_bounded}
use Rattle.um_progress.proofs.Beginning.{begun}
use Rattle.um_progress.proofs.Ending.{optimal_ready, infeasible_ready}
use Rattle.um_progress.proofs.Draining.{stop_ready}
use Rattle.um_progress.proofs.Stopping.{stop_in_hand, stop_numbered}

-- ---- the beginning
pub begins : (W : Type 0) (d : DeckValue) (t : ℤ) (y : MultipliersValue) (w : OpenNode) → OpenIs d (root d) y → IsEntryOf d (root d) 0 w → IsSearch W d t [] None (rooted y) (w ∷ []) None None
begins W d t y w placed e = begun W d t y w (one_grows (None ∷ []) (root_node ∷ []) (None ∷ []) root_node refl refl refl tt).growth placed e.bounds e.node e.key e.size
  where
    root_node : NodeValue
    root_node = record { solved = None; what = OpenLeaf y }

-- ---- taking
pub takes : (W : Type 0) (d : DeckValue) (t : ℤ) (history : List (Number W)) (g : GrowthValue) (incumbent : Option Incumbent) (least : Option Rational) (before after : List OpenNode) (w : OpenNode) → IsTaken before w after
    → IsSearch W d t history None g before incumbent least → IsSearch W d t history (Some w.node) g after incumbent least × WaitsIn d g w
takes W d t history g incumbent least before after w k s =
    subst (λ (ws : List OpenNode). IsSearch W d t history (Some w.node) g ws incumbent least × WaitsIn d g w) (sym k.after_is)
    (take_act W d t history g incumbent least k.front k.behind w (subst (λ (ws : List OpenNode). IsSearch W d t history None g ws incumbent least) k.before_is s))

-- ---- settling
settled_leaf : (d : DeckValue) (b : BoxValue) (w : WhatValue) (least after : Option Rational) → Settles d b w least after → IsLeaf w
settled_leaf d b (Split branch) least after c = absurd c
settled_leaf d b (Bounded y) least after c = tt
settled_leaf d b (Empty y) least after c = tt
settled_leaf d b (Void column) least after c = tt
settled_leaf d b (OpenLeaf y) least after c = absurd c

settled_ended : (d : DeckValue) (b : BoxValue) (w : WhatValue) (least after : Option Rational) → Settles d b w least after → ¬ IsOpenLeaf w
settled_ended d b (Split branch) least after c = λ o. o
settled_ended d b (Bounded y) least after c = λ o. o
settled_ended d b (Empty y) least after c = λ o. o
settled_ended d b (Void column) least after c = λ o. o
settled_ended d b (OpenLeaf y) least after c = absurd c

module _ (W : Type 0) (d : DeckValue) (t : ℤ) (history history' : List (Number W)) (id : ℕ) (g : GrowthValue) (ws : List OpenNode) (incumbent : Option Incumbent) (least least' : Option Rational) (node : NodeValue)
    (s : IsSearch W d t history (Some id) g ws incumbent least) (holds : NodeIs d (objective_of incumbent) t (box_at d g id) node.what) (settles : Settles d (box_at d g id) node.what least least') (next : IsNext history id node.solved history') where
  abbrev after : GrowthValue
  after = settled g id node

  leaf : IsLeaf node.what
  leaf = settled_leaf d (box_at d g id) node.what least least' settles

  ended : ¬ IsOpenLeaf node.what
  ended = settled_ended d (box_at d g id) node.what least least' settles

  none_more : ¬ IsBounded node.what → least' ≡ least → IsLeastClosed d after least'
  none_more none e = subst (IsLeastClosed d after) (sym e) (not_bounded W d t history id g ws incumbent least s node leaf ended holds none)

  closed_of : (w : WhatValue) → node.what ≡ w → Settles d (box_at d g id) w least least' → IsLeastClosed d after least'
  closed_of (Split branch) e c = absurd c
  closed_of (Bounded y) e c = one_bounded W d t history id g ws incumbent least s node leaf ended holds c.0 least' (subst IsBounded (sym e) tt) (ap (bounds_at d (box_at d g id)) e ∙ c.1) c.2
  closed_of (Empty y) e c = none_more (λ b. subst IsBounded e b) c
  closed_of (Void column) e c = none_more (λ b. subst IsBounded e b) c
  closed_of (OpenLeaf y) e c = absurd c

  numbers_of : (o : Option Solved) → node.solved ≡ o → IsNext history id o history' → IsNumbered W after history' × (length history ≤ length history')
  numbers_of None e n = (subst (IsNumbered W after) (sym n) (unnumbered W d t history id g ws incumbent least s node leaf ended holds e), let same = ap length n in omega (arith, same))
  numbers_of (Some x) e n = (
    subst (IsNumbered W after) (sym n.3) (numbered W d t history id g ws incumbent least s node leaf ended holds n.0 n.1 (e ∙ ap (λ (y : Solved). Some y) n.2)),
    let same = ap length n.3 in omega (arith, same, length-append history (n.0 ∷ [])),
  )

  pub settles_search : IsSearch W d t history' None after ws incumbent least'
  settles_search =
      let n = numbers_of node.solved refl next in
      settle_act W d t history id g ws incumbent least s node leaf ended holds history' least' n.0 n.1 (closed_of node.what refl settles)

-- a search with fewer than 100,000 numbers has room for two nodes more
pub room_for_two : (W : Type 0) (d : DeckValue) (t : ℤ) (history : List (Number W)) (hand : Option ℕ) (g : GrowthValue) (ws : List OpenNode) (incumbent : Option Incumbent) (least : Option Rational) → IsSearch W d t history hand g ws incumbent least → length history < 100000 → length g.nodes + 2 ≤ 200001
room_for_two W d t history hand g ws incumbent least s few = let h = s.size in omega (arith, h, few)

-- ---- stopping with a node in hand
pub stops_in_hand : (W : Type 0) (d : DeckValue) (t : ℤ) (history history' : List (Number W)) (id : ℕ) (g : GrowthValue) (ws : List OpenNode) (incumbent : Option Incumbent) (least least' : Option Rational) (endless : Bool) (solved : Option Solved) (y : MultipliersValue)
    → IsSearch W d t history (Some id) g ws incumbent least → OpenIs d (box_at d g id) y → Counts false least (bound_in d y.y0 (leaf_value d (box_at d g id) y)) endless least' → IsNext history id solved history'
    → IsStopping W d t history' (settled g id (record { solved = solved; what = OpenLeaf y })) ws incumbent endless least'
stops_in_hand W d t history history' id g ws incumbent least least' endless None y s bounds counts n =
    subst (λ (h : List (Number W)). IsStopping W d t h (settled g id (record { solved = None; what = OpenLeaf y })) ws incumbent endless least') (sym n) (stop_in_hand W d t history id g ws incumbent least s y bounds endless least' counts)
stops_in_hand W d t history history' id g ws incumbent least least' endless (Some x) y s bounds counts n =
    subst (λ (h : List (Number W)). IsStopping W d t h (settled g id (record { solved = Some x; what = OpenLeaf y })) ws incumbent endless least') (sym n.3)
    (subst (λ (z : Solved). IsStopping W d t (history ++ n.0 ∷ []) (settled g id (record { solved = Some z; what = OpenLeaf y })) ws incumbent endless least') (sym n.2)
    (stop_numbered W d t history id g ws incumbent least s y bounds endless least' counts n.0 n.1))

-- ---- the answers
pub optimal_accepted : (W : Type 0) (d : DeckValue) (t : ℤ) (history : List (Number W)) (g : GrowthValue) (i : Incumbent) (x : Rational) (tree : List NodeValue) → IsSearch W d t history None g [] (Some i) (Some x) → ToleranceHolds d t → IsTold g tree
    → IsAccepted d (optimal t i x tree)
optimal_accepted W d t history g i x tree s tolerance told = accepted-law d g (optimal t i x tree) (optimal_ready W d t history g i x s tolerance tree told)

pub infeasible_accepted : (W : Type 0) (d : DeckValue) (t : ℤ) (history : List (Number W)) (g : GrowthValue) (least : Option Rational) (tree : List NodeValue) → IsSearch W d t history None g [] None least → ToleranceHolds d t → IsTold g tree
    → IsAccepted d (infeasible t tree)
infeasible_accepted W d t history g least tree s tolerance told = accepted-law d g (infeasible t tree) (infeasible_ready W d t history g least s tolerance tree told)

pub stopped_accepted : (W : Type 0) (d : DeckValue) (t : ℤ) (history : List (Number W)) (g : GrowthValue) (incumbent : Option Incumbent) (endless : Bool) (least : Option Rational) (kind : AnswerKind) (why : Why) (tree : List NodeValue) → IsStopping W d t history g [] incumbent endless least → ToleranceHolds d t
    → kind ≡ kind_of_stop why → IsTold g tree → IsAccepted d (stopped kind why t incumbent (bound_of endless least) tree)
stopped_accepted W d t history g incumbent endless least kind why tree s tolerance is told =
    accepted-law d g (stopped kind why t incumbent (bound_of endless least) tree) (stop_ready W d t history g incumbent endless least s.draining tolerance kind why is tree told)
