-- A search stops: the node in hand, and then each that waits, becomes an open leaf with its multipliers.
use Rattle.std.proofs.Common.{◌≡◌, ◌∙◌, ℕ, suc, ◌≤◌, pos, Bool, false, List, [], ◌∷◌, ◌++◌, length, map, Option, Some, None, refl, sym, ap, subst, arith, inl, inr, length-append}
use Rattle.std.specs.Prelude.{ℤ, IsSome}
use Rattle.um_laws.specs.Rational.{Rational}
use Rattle.um_multipliers.specs.PlainMultipliers.{MultipliersValue, plain_multipliers}
use Rattle.um_model.specs.Values.{DeckValue, PointValue}
use Rattle.um_model.specs.Accepted.{bound_in}
use Rattle.um_model.specs.AnswerValues.{NodeValue, WhatValue, OpenLeaf}
use Rattle.um_model.specs.LeafValue.{leaf_value}
use Rattle.um_model.specs.declared.answer.Why.{Why}
use Rattle.um_model.specs.declared.answer.Why.TheVariants as why
use Rattle.um_model.specs.declared.tree.Solved.{Solved}
use Rattle.um_lp.specs.States.{State}
use Rattle.um_tree.specs.Growths.{GrowthValue, IsOpenAt, origin_at, what_at, settled}
use Rattle.um_cover.specs.Sites.{box_at}
use Rattle.um_nodes.specs.declared.open_nodes.OpenNode.{OpenNode}
use Rattle.um_progress.specs.declared.incumbent.Incumbent.{Incumbent}
use Rattle.um_progress.specs.Waits.{WaitsIn, id_of}
use Rattle.um_progress.specs.Numbers.{Number}
use Rattle.um_progress.specs.Incumbents.{objective_of}
use Rattle.um_progress.specs.Stops.{Counts, IsStopping}
use Rattle.um_progress.proofs.Acts.{open_leaf}
use Rattle.um_progress.proofs.Draining.{every_last}
use Rattle.um_progress.proofs.Changes.{settle_changes}
use Rattle.um_progress.proofs.Lineages.{settle_lineage}
use Rattle.um_progress.proofs.Settling.{stops_in_hand}
use Rattle.um_progress.proofs.Stopping.{last_waits, stop_act}
use Rattle.um_turns.specs.Turns.{Turn, TurnEnd, Reached, Halted, HaltHolds, EndHolds, Became}
use Rattle.um_turns.specs.NextTurns.{IsNextTurn, IsNoBetter}
use Rattle.um_turns.specs.Histories.{History, IsHanded, AreHanded, ray_of}
use Rattle.um_search.specs.declared.budget.Budget.{Budget}
use Rattle.um_loop.specs.declared.search.Search.{Search}
use Rattle.um_loop.specs.declared.search.Halt.{Halt}
use Rattle.um_loop.specs.Goings.{HasSpent, HaltedAt}
use Rattle.um_turns.specs.NeededTurns.{IsNeeded}
use Rattle.um_search.specs.Told.{IsHaltedLast, IsEndedBy}
use Rattle.um_loop.specs.Checkables.{AreCheckable}
use Rattle.um_search.specs.Endings.{IsHalted}
use Rattle.um_search.proofs.Emptying.{AreRising, AreHandedBut, HasHand, IsEmptying}
use Rattle.um_loop.proofs.Rising.{Rises, handed_rises, all_rise, kept_rises}
use Rattle.um_turns.proofs.Bests.{best_stays}
use Rattle.um_turns.proofs.Turning.{settle_history, settle_turn}
use Rattle.um_turns.proofs.Waiting.{all_handed_more, handed_last}
use Rattle.um_search.proofs.HandedLeaves.{leaf_under, none_but, among_last, but_on, hand_here, hand_on, last_is_among, others_are_among}
use Rattle.um_loop.proofs.Checkables.{checkable_on}
use Rattle.um_loop.proofs.KeysClose.{open_still}
use Rattle.um_loop.proofs.NeededTurns.{needed_more, needed_on, open_last}
use Rattle.um_loop.proofs.Settled.{ray_more, some_kept}
use Rattle.um_loop.proofs.UnnumberedNodes.{settled_unnumbered, unnumbered_more}

-- a node that waits stands open in the tree
pub open_of : (d : DeckValue) (g : GrowthValue) (w : OpenNode) → WaitsIn d g w → IsOpenAt g w.node
open_of d g w h = record { inside = h.fresh.inside; leaf = open_leaf (what_at g w.node) h.fresh.open_leaf }

-- a search does not stop at its budget of nodes in a turn
ended_by : (history : History) (cause : Why) → ¬ (cause ≡ why.Nodes) → IsHaltedLast history cause → IsEndedBy history (Some cause)
ended_by history why.Nodes other h = absurd (other refl)
ended_by history why.Pivots other h = h
ended_by history (why.Points column) other h = h
ended_by history (why.Grid number) other h = h
ended_by history (why.Pivot number step wide) other h = h
ended_by history (why.Value number step wide) other h = h
ended_by history (why.Leaf number) other h = h
ended_by history (why.Vertex number) other h = h
ended_by history why.Ray other h = h

-- nor at a vertex
halted_vertex : (cause : Why) (own : Option MultipliersValue) (p : PointValue) (z : MultipliersValue) → ¬ (Halted cause own ≡ Reached p z)
halted_vertex cause own p z e = absurd (cc)

-- ---- the leaf
leaf_is : (y z : MultipliersValue) → leaf_under y ≡ leaf_under z → y ≡ z
leaf_is y z same = let what : OpenLeaf y ≡ OpenLeaf z = ap (λ (n : NodeValue). n.what) same in cc

no_leaf : (number pivots : ℕ) (w : WhatValue) (z : MultipliersValue) → ¬ (record { solved = Some (record { number = number; pivots = pivots }); what = w } ≡ leaf_under z)
no_leaf number pivots w z same = let none = ap (λ (n : NodeValue). n.solved) same in absurd (cc)

-- ---- the node in hand
module _ (d : DeckValue) (no_arcs : d.arcs ≡ []) (budget : Budget) (s : Search) (halt : Halt) (within : s.solved ≤ budget.nodes) (checkable : AreCheckable d s.growth) where
  abbrev y : MultipliersValue
  y = plain_multipliers halt.hand.y

  abbrev id : ℕ
  id = halt.hand.node

  abbrev node : Option Solved → NodeValue
  node solved = record { solved = solved; what = OpenLeaf y }

  abbrev after : Option Solved → GrowthValue
  after solved = settled s.growth id (node solved)

  abbrev Counted : Bool → Option Rational → Type 0
  Counted endless least = Counts false s.least (bound_in d halt.hand.y.y0 (leaf_value d (box_at d s.growth id) y)) endless least

  module _ (start board : State) (left : ℕ) (endless : Bool) (least : Option Rational) (counts : Counted endless least) where
    spent : HasSpent d start budget.pivots budget.nodes s halt board left → IsEmptying d budget halt.why s.incumbent (after None) s.open endless least
    spent h =
        let t = h.taken in
        let g = t.going in
        record {
          start = start;
          history = g.history;
          stopping = stops_in_hand Turn d (pos 0) g.history g.history id s.growth s.open s.incumbent s.least least endless None y g.search t.waits.bounds counts refl;
          told = settle_history d start budget.pivots s.growth g.history id t.waits.fresh.solved g.search.numbered g.told (node None);
          rising = all_rise d no_arcs start budget.pivots s.growth g.history g.told g.finished s.open g.handed;
          checkable = checkable_on d s.growth id (node None) (handed_rises d no_arcs start budget.pivots s.growth g.history g.told g.finished (origin_at s.growth id) y t.handed) checkable;
          handed = g.handed;
          others = but_on d s.growth g.history id (id ∷ map id_of s.open) (map id_of s.open) (node None) t.waits.fresh.inside (λ j a. a)
              (λ z same. subst (IsHanded g.history (origin_at s.growth id)) (leaf_is y z same) t.handed) (none_but s.growth g.history (id ∷ map id_of s.open) g.search.all);
          unnumbered = settled_unnumbered s.growth g.history id (node None) (λ _. tt) g.unnumbered;
          lineage = settle_lineage Turn d s.growth g.history id (node None) g.search.growth g.search.numbered t.waits.fresh tt (λ n e. absurd (cc)) g.lineage;
          needed = needed_on d s.growth (after None) id (settle_changes d s.growth id (node None)) g.history t.waits.fresh.solved g.search.numbered g.needed;
          best = g.best;
          ended = subst (λ (w : Why). IsEndedBy g.history (Some w)) (sym h.cause) g.finished;
          no_best = λ some. g.no_best (some_kept s.ray (ray_of g.history) g.ray_is some);
          nodes = subst (λ (k : ℕ). k ≤ budget.nodes) g.solved within;
          all = λ _. sym g.solved ∙ h.all;
          hand = λ _. hand_here d (objective_of s.incumbent) s.growth id y (map id_of s.open) t.waits.fresh.inside g.search.distinct (open_still d (box_at d s.growth id) y halt.hand.key s.incumbent t.waits.key h.open_still);
        }

    module _ (h : HaltedAt d start budget.pivots s halt board left) where
      abbrev turn : Number Turn
      turn = record { id = id; pivots = h.pivots; told = h.turn }

      abbrev history : History
      history = h.history ++ turn ∷ []

      abbrev own : Option Solved
      own = Some (record { number = suc (length h.history); pivots = h.pivots })

      -- of the cause
      holds : HaltHolds d (box_at d s.growth id) h.turn h.pivots (suc (length h.history)) halt.why h.own
      holds = subst (EndHolds d (box_at d s.growth id) h.turn h.pivots (suc (length h.history))) h.end_is h.run

      no_budget : ¬ (halt.why ≡ why.Nodes)
      no_budget e = never (subst (λ (w : Why). HaltHolds d (box_at d s.growth id) h.turn h.pivots (suc (length h.history)) w h.own) e holds)
        where
          never : ¬ HaltHolds d (box_at d s.growth id) h.turn h.pivots (suc (length h.history)) why.Nodes h.own
          never (inl r) = r.holds
          never (inr o) = o.stopped.stopped

      became : Became d h.turn.handed h.turn.end (OpenLeaf y)
      became = subst (λ (e : TurnEnd). Became d h.turn.handed e (OpenLeaf y)) (sym h.end_is) h.kept

      rises : Rises d y
      rises = subst (Rises d) (sym h.kept) (kept_rises d no_arcs start budget.pivots s.growth h.history h.told h.finished (box_at d s.growth id) h.turn h.pivots (suc (length h.history)) h.before_is halt.why h.own holds (origin_at s.growth id) h.handed_is)

      next : IsNextTurn d start budget.pivots s.growth h.history id turn
      next = record { at = refl; before = h.before_is; left = h.left_is; few = subst (λ (k : ℕ). h.pivots ≤ k) h.left_is h.within; run = h.run; handed = h.handed_is }

      size : length history ≤ budget.nodes
      size = let a = length-append h.history (turn ∷ []) in let b = h.solved in omega (arith, a, b, within)

      last_needed : IsNeeded d (after own) history (length h.history) turn
      last_needed = record { handed = open_last d h.history turn (box_at d s.growth id) h.turn.handed h.hand_needed; split = λ branch p z what at. absurd (halted_vertex halt.why h.own p z (sym h.end_is ∙ at)) }

      in_turn : IsEmptying d budget halt.why s.incumbent (after own) s.open endless least
      in_turn = record {
        start = start;
        history = history;
        stopping = stops_in_hand Turn d (pos 0) h.history history id s.growth s.open s.incumbent s.least least endless own y h.search h.waits.bounds counts (turn, refl, refl, refl);
        told = settle_turn d start budget.pivots s.growth h.history id h.waits.fresh.solved h.search.numbered h.told (node own) turn h.waits.fresh.inside next became;
        rising = all_rise d no_arcs start budget.pivots s.growth h.history h.told h.finished s.open h.handed;
        checkable = checkable_on d s.growth id (node own) rises checkable;
        handed = all_handed_more s.growth h.history turn s.open h.handed;
        others = but_on d s.growth history id (id ∷ map id_of s.open) (map id_of s.open) (node own) h.waits.fresh.inside (λ j a. a)
            (λ z same. absurd (no_leaf (suc (length h.history)) h.pivots (OpenLeaf y) z same)) (none_but s.growth history (id ∷ map id_of s.open) h.search.all);
        unnumbered = unnumbered_more (after own) h.history turn (settled_unnumbered s.growth h.history id (node own) (λ none. absurd (cc)) h.unnumbered);
        lineage = settle_lineage Turn d s.growth h.history id (node own) h.search.growth h.search.numbered h.waits.fresh tt (λ n e. let same : suc (length h.history) ≡ n = cc in sym same) h.lineage;
        needed = needed_more d (after own) h.history turn last_needed (needed_on d s.growth (after own) id (settle_changes d s.growth id (node own)) h.history h.waits.fresh.solved h.search.numbered h.needed);
        best = best_stays d h.history s.incumbent turn (subst (IsNoBetter d s.incumbent) (sym h.end_is) tt) h.best;
        ended = ended_by history halt.why no_budget (record { before = h.history; last = turn; own = h.own; history_is = refl; finished = h.finished; end = h.end_is });
        no_best = λ some. h.no_best (subst (λ (r : Option (List ℤ)). IsSome r) (ray_more h.history turn) some);
        nodes = size;
        all = λ e. absurd (no_budget e);
        hand = λ e. absurd (no_budget e);
      }

  pub hand_waits : IsHalted d budget.pivots budget.nodes s halt → WaitsIn d s.growth halt.hand
  hand_waits h = elim h.stopped [ inl t ↦ t.taken.waits | inr t ↦ t.waits ]

  pub hand_left : IsHalted d budget.pivots budget.nodes s halt → (g : GrowthValue) (endless : Bool) (least : Option Rational) → g ≡ after halt.solved → Counted endless least → IsEmptying d budget halt.why s.incumbent g s.open endless least
  hand_left h g endless least is counts =
      subst (λ (x : GrowthValue). IsEmptying d budget halt.why s.incumbent x s.open endless least) (sym is)
      (elim h.stopped [
        | inl t ↦ subst (λ (o : Option Solved). IsEmptying d budget halt.why s.incumbent (after o) s.open endless least) (sym t.none) (spent h.start h.board h.left endless least counts t)
        | inr t ↦ subst (λ (o : Option Solved). IsEmptying d budget halt.why s.incumbent (after o) s.open endless least) (sym t.number_is) (in_turn h.start h.board h.left endless least counts t)
      ])

-- ---- the last of those that wait
module _ (d : DeckValue) (budget : Budget) (cause : Why) (incumbent : Option Incumbent) (g : GrowthValue) (ws rest : List OpenNode) (w : OpenNode) (endless : Bool) (least : Option Rational) (is : ws ≡ rest ++ w ∷ []) (s : IsEmptying d budget cause incumbent g ws endless least) where
  abbrev leaf : NodeValue
  leaf = record { solved = None; what = OpenLeaf (plain_multipliers w.y) }

  here : IsStopping Turn d (pos 0) s.history g (rest ++ w ∷ []) incumbent endless least
  here = subst (λ (xs : List OpenNode). IsStopping Turn d (pos 0) s.history g xs incumbent endless least) is s.stopping

  pub entry_waits : WaitsIn d g w
  entry_waits = last_waits Turn d (pos 0) s.history g rest w incumbent endless least here

  rise : Rises d (plain_multipliers w.y) × AreRising d rest
  rise = every_last (λ (x : OpenNode). Rises d (plain_multipliers x.y)) rest w (subst (AreRising d) is s.rising)

  hands : IsHanded s.history (origin_at g w.node) (plain_multipliers w.y) × AreHanded g s.history rest
  hands = handed_last g s.history rest w (subst (AreHanded g s.history) is s.handed)

  pub entry_left : (h : GrowthValue) (endless' : Bool) (least' : Option Rational) → h ≡ settled g w.node leaf → Counts endless least (bound_in d w.y.y0 (leaf_value d (box_at d g w.node) (plain_multipliers w.y))) endless' least'
      → IsEmptying d budget cause incumbent h rest endless' least'
  entry_left h endless' least' at counts = subst (λ (x : GrowthValue). IsEmptying d budget cause incumbent x rest endless' least') (sym at) (record {
    start = s.start;
    history = s.history;
    stopping = stop_act Turn d (pos 0) s.history g rest w incumbent endless least here endless' least' counts;
    told = settle_history d s.start budget.pivots g s.history w.node entry_waits.fresh.solved s.stopping.draining.numbered s.told leaf;
    rising = rise.1;
    checkable = checkable_on d g w.node leaf rise.0 s.checkable;
    handed = hands.1;
    others = but_on d g s.history w.node (map id_of (rest ++ w ∷ [])) (map id_of rest) leaf entry_waits.fresh.inside (among_last rest w)
        (λ z same. subst (IsHanded s.history (origin_at g w.node)) (leaf_is (plain_multipliers w.y) z same) hands.0) (subst (λ (xs : List OpenNode). AreHandedBut g s.history (map id_of xs)) is s.others);
    unnumbered = settled_unnumbered g s.history w.node leaf (λ _. tt) s.unnumbered;
    lineage = settle_lineage Turn d g s.history w.node leaf s.stopping.draining.growth s.stopping.draining.numbered entry_waits.fresh tt (λ n e. absurd (cc)) s.lineage;
    needed = needed_on d g (settled g w.node leaf) w.node (settle_changes d g w.node leaf) s.history entry_waits.fresh.solved s.stopping.draining.numbered s.needed;
    best = s.best;
    ended = s.ended;
    no_best = s.no_best;
    nodes = s.nodes;
    all = s.all;
    hand = λ e. hand_on d (objective_of incumbent) g (map id_of (rest ++ w ∷ [])) (map id_of rest) w.node leaf (last_is_among rest w) (others_are_among rest w) (subst (λ (xs : List OpenNode). HasHand d (objective_of incumbent) g (map id_of xs)) is (s.hand e));
  })
