-- A search stops: with a node in hand, which becomes an open leaf first, or without one; then what waits, from the last on.
use Rattle.std.proofs.Common.{◌≡◌, ℕ, suc, ◌<◌, ℤ, Bool, false, List, [], ◌∷◌, ◌++◌, length, map, Option, Some, None, refl, ap, subst, arith}
use Rattle.std.proofs.Math.ListN.{length-set}
use Rattle.um_laws.specs.Rational.{Rational}
use Rattle.um_laws.proofs.Places.{at_set}
use Rattle.um_multipliers.specs.PlainMultipliers.{MultipliersValue, plain_multipliers}
use Rattle.um_model.specs.Values.{DeckValue}
use Rattle.um_model.specs.LeafValue.{leaf_value}
use Rattle.um_model.specs.Accepted.{bound_in}
use Rattle.um_model.specs.AnswerValues.{NodeValue, OpenLeaf}
use Rattle.um_model.specs.declared.tree.Solved.{Solved}
use Rattle.um_tree.specs.Growths.{GrowthValue, node_at, no_node, settled}
use Rattle.um_cover.specs.Sites.{box_at}
use Rattle.um_cover.specs.Nodes.{OpenIs}
use Rattle.um_nodes.specs.declared.open_nodes.OpenNode.{OpenNode}
use Rattle.um_progress.specs.declared.incumbent.Incumbent.{Incumbent}
use Rattle.um_progress.specs.Waits.{Every, WaitsIn, id_of}
use Rattle.um_progress.specs.Numbers.{Number, IsNumbered}
use Rattle.um_progress.specs.Searches.{IsSearch}
use Rattle.um_progress.specs.Stops.{Counts, IsDraining, IsStopping}
use Rattle.um_progress.proofs.Acts.{ids_join}
use Rattle.um_progress.proofs.Changes.{IsChange, settle_changes, all_wait_on}
use Rattle.um_progress.proofs.Numbering.{numbered_on, numbered_more}
use Rattle.um_progress.proofs.Draining.{drain_begins, drain_act, counted_after, drain_turn, every_last}

-- without a node in hand
pub stop_begins : (W : Type 0) (d : DeckValue) (t : ℤ) (history : List (Number W)) (g : GrowthValue) (ws : List OpenNode) (incumbent : Option Incumbent) (least : Option Rational) → IsSearch W d t history None g ws incumbent least
    → IsStopping W d t history g ws incumbent false least
stop_begins W d t history g ws incumbent least s = record { draining = drain_begins W d t history None g ws incumbent least s; waits = s.waits }

-- with the node of this id in hand, and multipliers that bound its box: its own, or those that it was handed
module _ (W : Type 0) (d : DeckValue) (t : ℤ) (history : List (Number W)) (id : ℕ) (g : GrowthValue) (ws : List OpenNode) (incumbent : Option Incumbent) (least : Option Rational) (s : IsSearch W d t history (Some id) g ws incumbent least) (y : MultipliersValue) (bounds : OpenIs d (box_at d g id) y) (endless : Bool) (least' : Option Rational) (counts : Counts false least (bound_in d y.y0 (leaf_value d (box_at d g id) y)) endless least') where
  drains : IsDraining W d t history g (id ∷ map id_of ws) incumbent false least
  drains = drain_begins W d t history (Some id) g ws incumbent least s

  module _ (solved : Option Solved) where
    abbrev node : NodeValue
    node = record { solved = solved; what = OpenLeaf y }

    abbrev after : GrowthValue
    after = settled g id node

    change : IsChange d g after id
    change = settle_changes d g id node

    node_is : node_at after id ≡ node
    node_is = at_set g.nodes id node no_node s.in_hand.inside

    inside_after : id < length after.nodes
    inside_after = let h = s.in_hand.inside in omega (arith, h, length-set g.nodes id node)

    placed : (history' : List (Number W)) → IsNumbered W after history' → IsStopping W d t history' after ws incumbent endless least'
    placed history' numbered = record {
      draining = drain_act W d t history g id (map id_of ws) incumbent false least drains solved y bounds history' endless least' numbered
          (counted_after W d t history g id (map id_of ws) incumbent false least drains solved y bounds endless least' (bound_in d y.y0 (leaf_value d (box_at d g id) y)) refl counts);
      waits = all_wait_on d g after id change ws s.waits s.distinct.0;
    }

  -- it got no number
  pub stop_in_hand : IsStopping W d t history (settled g id (record { solved = None; what = OpenLeaf y })) ws incumbent endless least'
  stop_in_hand = placed None history (numbered_on d g (after None) id (change None) history s.in_hand.solved s.numbered (ap (λ (n : NodeValue). n.solved) (node_is None)))

  -- it got the next number
  pub stop_numbered : (n : Number W) → n.id ≡ id → IsStopping W d t (history ++ n ∷ []) (settled g id (record { solved = Some (record { number = suc (length history); pivots = n.pivots }); what = OpenLeaf y })) ws incumbent endless least'
  stop_numbered n is =
      let own : Option Solved = Some (record { number = suc (length history); pivots = n.pivots }) in
      placed own (history ++ n ∷ []) (numbered_more d g (after own) id (change own) history s.in_hand.solved n is (inside_after own) (ap (λ (x : NodeValue). x.solved) (node_is own)) s.numbered)

-- the last entry gets its multipliers
module _ (W : Type 0) (d : DeckValue) (t : ℤ) (history : List (Number W)) (g : GrowthValue) (ws : List OpenNode) (w : OpenNode) (incumbent : Option Incumbent) (endless : Bool) (least : Option Rational) (s : IsStopping W d t history g (ws ++ w ∷ []) incumbent endless least) where
  all : WaitsIn d g w × Every (WaitsIn d g) ws
  all = every_last (WaitsIn d g) ws w s.waits

  pub last_waits : WaitsIn d g w
  last_waits = all.0

  turned : IsDraining W d t history g (w.node ∷ map id_of ws) incumbent endless least
  turned = drain_turn W d t history g w.node (map id_of ws) incumbent endless least (subst (λ (ids : List ℕ). IsDraining W d t history g ids incumbent endless least) (ids_join ws (w ∷ [])) s.draining)

  pub stop_act : (endless' : Bool) (least' : Option Rational) → Counts endless least (bound_in d w.y.y0 (leaf_value d (box_at d g w.node) (plain_multipliers w.y))) endless' least' → IsStopping W d t history (settled g w.node (record { solved = None; what = OpenLeaf (plain_multipliers w.y) })) ws incumbent endless' least'
  stop_act endless' least' counts =
      let y = plain_multipliers w.y in
      let node : NodeValue = record { solved = None; what = OpenLeaf y } in
      let change = settle_changes d g w.node node in
      let node_is = at_set g.nodes w.node node no_node all.0.fresh.inside in
      record {
        draining = drain_act W d t history g w.node (map id_of ws) incumbent endless least turned None y all.0.bounds history endless' least'
            (numbered_on d g (settled g w.node node) w.node change history all.0.fresh.solved s.draining.numbered (ap (λ (n : NodeValue). n.solved) node_is))
            (counted_after W d t history g w.node (map id_of ws) incumbent endless least turned None y all.0.bounds endless' least' (bound_in d y.y0 (leaf_value d (box_at d g w.node) y)) refl counts);
        waits = all_wait_on d g (settled g w.node node) w.node change ws all.1 turned.distinct.0;
      }
