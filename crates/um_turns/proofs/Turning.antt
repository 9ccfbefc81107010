-- What is told of the numbers so far stays told, whatever act comes; and what the next turn adds.
use Rattle.std.proofs.Common.{◌≡◌, ℕ, suc, ◌<◌, inl, inr, [], ◌∷◌, ◌++◌, length, slice_get, slice_set, Option, Some, None, refl, sym, ap, subst, arith}
use Rattle.um_laws.proofs.Places.{at_set}
use Rattle.um_multipliers.specs.PlainMultipliers.{MultipliersValue}
use Rattle.um_model.specs.Values.{DeckValue}
use Rattle.um_model.specs.Boxes.{BoxValue}
use Rattle.um_model.specs.AnswerValues.{NodeValue, WhatValue, Split}
use Rattle.um_model.specs.declared.branch.Branch.{Branch}
use Rattle.um_model.specs.declared.tree.Solved.{Solved}
use Rattle.um_lp.specs.States.{State}
use Rattle.um_lp.specs.Boards.{IsBoard, IsStart}
use Rattle.um_duality.specs.Relaxed.{deck_frame}
use Rattle.um_tree.specs.Growths.{GrowthValue, IsGrowth, node_at, no_node, what_at, origin_at, left_of, right_of, parted, settled}
use Rattle.um_tree.specs.declared.growing.Origin.{Origin}
use Rattle.um_tree.proofs.Writes.{in_front, elsewhere, set_length}
use Rattle.um_cover.specs.Sites.{box_at}
use Rattle.um_cover.proofs.Ways.{box_stays}
use Rattle.um_progress.specs.Numbers.{Number, IsNumbered}
use Rattle.um_progress.specs.Ends.{rooted}
use Rattle.um_turns.specs.Turns.{Turn, EndHolds, Became}
use Rattle.um_turns.specs.Histories.{History, IsHanded, TurnHolds, IsHistory}
use Rattle.um_turns.specs.NextTurns.{IsNextTurn}
use Rattle.um_turns.proofs.Lists.{get_pushed, get_still}
use Rattle.um_turns.proofs.Chains.{chained_more}

-- ---- a history with one turn more
pub handed_more : (history : History) (n : Number Turn) (o : Option Origin) (y : MultipliersValue) → IsHanded history o y → IsHanded (history ++ n ∷ []) o y
handed_more history n None y h = h
handed_more history n (Some o) y h = record {
  place = h.place;
  number = h.number;
  here = get_still history n h.place h.number h.here;
  parent = h.parent;
  point = h.point;
  vertex = h.vertex;
}

turn_more : (d : DeckValue) (g : GrowthValue) (history : History) (m : Number Turn) (number : ℕ) (n : Number Turn) → TurnHolds d g history number n → TurnHolds d g (history ++ m ∷ []) number n
turn_more d g history m number n t = record { run = t.run; became = t.became; handed = handed_more history m (origin_at g n.id) n.told.handed t.handed }

pub history_more : (d : DeckValue) (start : State) (most : ℕ) (g h : GrowthValue) (history : History) (id : ℕ) (n : Number Turn) → IsNextTurn d start most g history id n → TurnHolds d h history (suc (length history)) n
    → IsHistory d start most h history → IsHistory d start most h (history ++ n ∷ [])
history_more d start most g h history id n next told k = record {
  starts = k.starts;
  board = k.board;
  chained = chained_more start most history n next.before next.left next.few k.chained;
  holds = λ place m e. elim (get_pushed history n place m e) [
    | inl old ↦ turn_more d h history n (suc place) m (k.holds place m old)
    | inr new ↦ subst (TurnHolds d h (history ++ n ∷ []) (suc place)) new.1 (subst (λ (i : ℕ). TurnHolds d h (history ++ n ∷ []) (suc i) n) (sym new.0) (turn_more d h history n (suc (length history)) n told))
  ];
}

-- ---- a node that no act writes
-- the box, the node and its origin are as before
pub record Stays (d : DeckValue) (g h : GrowthValue) (id : ℕ) : Type 0 where
  pub box : box_at d h id ≡ box_at d g id
  pub what : what_at h id ≡ what_at g id
  pub origin : origin_at h id ≡ origin_at g id

turn_stays : (d : DeckValue) (g h : GrowthValue) (history : History) (number : ℕ) (n : Number Turn) → Stays d g h n.id → TurnHolds d g history number n → TurnHolds d h history number n
turn_stays d g h history number n s t = record {
  run = subst (λ (b : BoxValue). EndHolds d b n.told n.pivots number n.told.end) (sym s.box) t.run;
  became = subst (λ (w : WhatValue). Became d n.told.handed n.told.end w) (sym s.what) t.became;
  handed = subst (λ (o : Option Origin). IsHanded history o n.told.handed) (sym s.origin) t.handed;
}

pub history_stays : (d : DeckValue) (start : State) (most : ℕ) (g h : GrowthValue) (history : History) → ((place : ℕ) (n : Number Turn) → slice_get history place ≡ Some n → Stays d g h n.id) → IsHistory d start most g history → IsHistory d start most h history
history_stays d start most g h history s k = record {
  starts = k.starts;
  board = k.board;
  chained = k.chained;
  holds = λ place n e. turn_stays d g h history (suc place) n (s place n e) (k.holds place n e);
}

-- the nodes of the numbers are other ones than a node without a number
apart_from : (g : GrowthValue) (history : History) (id : ℕ) → (node_at g id).solved ≡ None → IsNumbered Turn g history → (place : ℕ) (n : Number Turn) → slice_get history place ≡ Some n → ¬ (id ≡ n.id)
apart_from g history id was k place n e same = let on = k.on place n e in let at : (node_at g n.id).solved ≡ None = subst (λ (j : ℕ). (node_at g j).solved ≡ None) same was in absurd (cc)

-- ---- the beginning
pub history_begins : (d : DeckValue) (start : State) (most : ℕ) (y : MultipliersValue) → IsStart (deck_frame d) start → IsBoard start → IsHistory d start most (rooted y) []
history_begins d start most y starts board = record { starts = starts; board = board; chained = tt; holds = λ place n e. absurd (cc) }

-- ---- a node without a number becomes another leaf
module _ (d : DeckValue) (start : State) (most : ℕ) (g : GrowthValue) (history : History) (id : ℕ) (was : (node_at g id).solved ≡ None) (numbered : IsNumbered Turn g history) (k : IsHistory d start most g history) where
  settle_stays : (node : NodeValue) (j : ℕ) → ¬ (id ≡ j) → Stays d g (settled g id node) j
  settle_stays node j apart = record { box = refl; what = ap (λ (x : NodeValue). x.what) (elsewhere g.nodes id j node no_node apart); origin = refl }

  -- without a number
  pub settle_history : (node : NodeValue) → IsHistory d start most (settled g id node) history
  settle_history node = history_stays d start most g (settled g id node) history (λ place n e. settle_stays node n.id (apart_from g history id was numbered place n e)) k

  -- with the next number
  pub settle_turn : (node : NodeValue) (n : Number Turn) → id < length g.nodes → IsNextTurn d start most g history id n → Became d n.told.handed n.told.end node.what → IsHistory d start most (settled g id node) (history ++ n ∷ [])
  settle_turn node n inside next became =
      let node_is : node_at (settled g id node) id ≡ node = at_set g.nodes id node no_node inside in
      let here : TurnHolds d (settled g id node) history (suc (length history)) n = record {
        run = subst (λ (j : ℕ). EndHolds d (box_at d g j) n.told n.pivots (suc (length history)) n.told.end) (sym next.at) next.run;
        became = subst (λ (j : ℕ). Became d n.told.handed n.told.end (what_at (settled g id node) j)) (sym next.at) (subst (λ (x : NodeValue). Became d n.told.handed n.told.end x.what) (sym node_is) became);
        handed = subst (λ (j : ℕ). IsHanded history (origin_at g j) n.told.handed) (sym next.at) next.handed;
      } in
      history_more d start most g (settled g id node) history id n next here (settle_history node)

  -- it becomes a split with the next number
  module _ (growth : IsGrowth g) (inside : id < length g.nodes) (solved : Option Solved) (branch : Branch) (l r : NodeValue) where
    abbrev after : GrowthValue
    after = parted g id solved branch l r

    abbrev whole : NodeValue
    whole = record { solved = solved; what = Split branch }

    pub origin_stays : (j : ℕ) → j < length g.nodes → origin_at after j ≡ origin_at g j
    origin_stays j h = in_front g.origins (left_of id branch ∷ right_of id branch ∷ []) j None (let s = growth.size in omega (arith, s, h))

    node_of : (j : ℕ) → j < length g.nodes → node_at after j ≡ node_at (settled g id whole) j
    node_of j h = in_front (slice_set g.nodes id whole) (l ∷ r ∷ []) j no_node (omega (arith, h, set_length g id solved branch l r inside))

    part_stays : (j : ℕ) → j < length g.nodes → Stays d (settled g id whole) after j
    part_stays j h = record { box = box_stays d g id solved branch l r growth j h; what = ap (λ (x : NodeValue). x.what) (node_of j h); origin = origin_stays j h }

    inside_more : (n : Number Turn) → n.id ≡ id → (place : ℕ) (m : Number Turn) → slice_get (history ++ n ∷ []) place ≡ Some m → m.id < length g.nodes
    inside_more n at place m e = elim (get_pushed history n place m e) [
      | inl old ↦ numbered.inside place m old
      | inr new ↦ let same = ap (λ (x : Number Turn). x.id) new.1 in omega (arith, same, at, inside)
    ]

    pub part_turn : (n : Number Turn) → IsNextTurn d start most g history id n → Became d n.told.handed n.told.end (Split branch) → IsHistory d start most after (history ++ n ∷ [])
    part_turn n next became = history_stays d start most (settled g id whole) after (history ++ n ∷ []) (λ place m e. part_stays m.id (inside_more n next.at place m e)) (settle_turn whole n inside next became)
