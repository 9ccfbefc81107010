-- Where the solving of a node led: the search goes on, or it stopped in this turn.
use Rattle.std.proofs.Common.{◌≡◌, ℕ, suc, ◌+◌, ◌-◌, ◌<◌, ◌≤◌, ◌^◌, pos, inl, inr, List, [], ◌∷◌, ◌++◌, length, Option, Some, None, refl, sym, ap, ◌∙◌, subst, arith, length-append}
use Rattle.std.specs.Prelude.{ℤ, IsSome, IsNone, IfSome, option_map, unsigned_abs, Result, IfOk}
use Rattle.std.proofs.lemmas.Int.{ints}
use Rattle.um_laws.specs.Rational.{Rational}
use Rattle.um_num.specs.Listed.{Listed}
use Rattle.um_num.specs.declared.Memory.{Memory}
use Rattle.um_multipliers.specs.PlainMultipliers.{MultipliersValue, plain_multipliers}
use Rattle.um_multipliers.specs.Sizes.{AreBelow}
use Rattle.um_multipliers.specs.declared.multipliers.Multipliers.{Multipliers}
use Rattle.um_model.specs.Values.{DeckValue, PointValue, plain_point}
use Rattle.um_model.specs.Boxes.{BoxValue}
use Rattle.um_model.specs.Branches.{Fits, left as left_box, right as right_box}
use Rattle.um_model.specs.LeafValue.{leaf_value}
use Rattle.um_model.specs.Feasible.{Feasible}
use Rattle.um_model.specs.Objective.{HasObjective, objective}
use Rattle.um_model.specs.Accepted.{IsAtMost, IsSmallPoint}
use Rattle.um_model.specs.AnswerValues.{WhatValue, Split, Bounded, Empty, Void, OpenLeaf}
use Rattle.um_model.specs.declared.answer.Why.{Why}
use Rattle.um_model.specs.declared.answer.Why.TheVariants as why
use Rattle.um_model.specs.declared.branch.Branch.{Branch}
use Rattle.um_model.specs.declared.tree.Solved.{Solved}
use Rattle.um_soundness.proofs.Objectives.{objective-law}
use Rattle.um_model.specs.declared.point.Point.{Point}
use Rattle.um_lp.specs.States.{State}
use Rattle.um_cover.specs.Nodes.{EmptyIs, IsImproved, OpenIs}
use Rattle.um_cover.specs.Sites.{box_at}
use Rattle.um_nodes.specs.declared.open_nodes.OpenNode.{OpenNode}
use Rattle.um_nodes.specs.declared.open_nodes.Key.{Key}
use Rattle.um_progress.specs.declared.incumbent.Incumbent.{Incumbent}
use Rattle.um_progress.specs.Waits.{KeyIs, WaitsIn}
use Rattle.um_progress.specs.Searches.{IsIncumbent, IsSearch, ChildWaits}
use Rattle.um_progress.specs.Incumbents.{objective_of}
use Rattle.um_progress.specs.Numbers.{Number}
use Rattle.um_progress.proofs.Acts.{improve_act}
use Rattle.um_solving.specs.Endings.{EndedAs}
use Rattle.um_solving.specs.Laws.{VertexSays, EmptySays, OwnSays}
use Rattle.um_solving.specs.Solvings.{AtVertex, StoppedBy}
use Rattle.um_solving.specs.declared.node.NodeEnd.{NodeEnd}
use Rattle.um_solving.specs.declared.node.NodeEnd.TheVariants as end
use Rattle.um_opening.specs.Numbers.{Begins, IsNumberRun, NumberEndedAs, parts_of}
use Rattle.um_tree.specs.Growths.{GrowthValue}
use Rattle.um_split.specs.Branchings.{IsBranchOf, AsksForNone}
use Rattle.um_turns.specs.Turns.{Turn, TurnEnd, Reached, Emptied, Halted, RunStopped, EndHolds, kept_multipliers}
use Rattle.um_turns.specs.Histories.{History, IsHistory, AreFinished, IsBest, state_behind, left_behind}
use Rattle.um_turns.specs.ShownRays.{HasShown}
use Rattle.um_turns.proofs.Going.{shown_first, shown as shown_law}
use Rattle.um_turns.specs.NextTurns.{IsNextTurn, IsNoBetter}
use Rattle.um_turns.proofs.Bests.{best_stays, best_improves}
use Rattle.um_loop.specs.declared.search.Search.{Search}
use Rattle.um_loop.specs.declared.search.Halt.{Halt}
use Rattle.um_loop.specs.declared.search.Ending.{Ending}
use Rattle.um_loop.specs.declared.search.Ending.TheVariants as ending
use Rattle.um_loop.specs.Goings.{IsKeyOf, IsGoing, HasTaken, HaltedAt, HasFound, WentOn, GoesOn, ray_with, ending_of}
use Rattle.um_loop.specs.Steps.{IsBestOf, IsNotClosing, HasOwn, IsKept, StoppedWith, ClosedAtVertex, BranchedAtVertex, StoppedAtGrid, VertexLed, IsReadVertex, IsFoundVertex, IsNoFound, VertexSettled, EndSays, HasSettled, emptied_search, with_best}
use Rattle.um_loop.proofs.KeysClose.{key_closes, key_bound, new_below, vertex_closes}
use Rattle.um_loop.proofs.NeededTurns.{none_closes}
use Rattle.um_loop.proofs.Results.{ok_map}
use Rattle.um_loop.proofs.Settled.{ray_more, own_waits, own_key, halts, leaf_goes, split_goes}

-- a stop of the run is one of the turn
halt_of : (d : DeckValue) (b : BoxValue) (begun after : State) (early steps left number : ℕ) (cause : Why) (own : Option MultipliersValue) → StoppedBy d b begun early steps left number cause own → RunStopped d b begun after early steps left number cause own
halt_of d b begun after early steps left number why.Nodes own h = h
halt_of d b begun after early steps left number why.Pivots own h = h
halt_of d b begun after early steps left number (why.Points column) own h = h
halt_of d b begun after early steps left number (why.Grid told) own h = absurd h
halt_of d b begun after early steps left number (why.Pivot told step wide) own h = h
halt_of d b begun after early steps left number (why.Value told step wide) own h = h
halt_of d b begun after early steps left number (why.Leaf told) own h = h
halt_of d b begun after early steps left number (why.Vertex told) own h = h
halt_of d b begun after early steps left number why.Ray own h = h

-- how the node ended, as the turn says it
abbrev end_of : NodeEnd → TurnEnd
end_of (end.Vertex point y) = Reached (plain_point point) (plain_multipliers y)
end_of (end.Empty y) = Emptied (plain_multipliers y)
end_of (end.Stopped cause own) = Halted cause (option_map plain_multipliers own)

module _ (d : DeckValue) (b : BoxValue) (before after : State) (pivots left number : ℕ) (shown : Option (Listed ℤ)) (handed : MultipliersValue) where
  abbrev turn_of : TurnEnd → Turn
  turn_of e = record { before = before; after = after; left = left; ray = parts_of shown; handed = handed; end = e }

  ran_holds : (e : NodeEnd) → IsNumberRun d number before pivots (parts_of shown) (λ begun early steps. EndedAs d b begun early steps (left - early) number e after) → EndHolds d b (turn_of (end_of e)) pivots number (end_of e)
  ran_holds (end.Vertex point y) r = record { begun = r.begun; early = r.early; steps = r.steps; begins = r.begins; adds = r.adds; holds = r.holds.0 }
  ran_holds (end.Empty y) r = record { begun = r.begun; early = r.early; steps = r.steps; begins = r.begins; adds = r.adds; holds = r.holds.0 }
  ran_holds (end.Stopped cause own) r = inl (record {
    begun = r.begun;
    early = r.early;
    steps = r.steps;
    begins = r.begins;
    adds = r.adds;
    holds = halt_of d b r.begun after r.early r.steps (left - r.early) number cause (option_map plain_multipliers own) r.holds;
  })

  -- the solving of a number is a turn
  turn_holds : (e : NodeEnd) → NumberEndedAs d b before pivots left number (record { end = e; ray = shown }) after → EndHolds d b (turn_of (end_of e)) pivots number (end_of e)
  turn_holds e (inl r) = ran_holds e r
  turn_holds e (inr n) = subst (λ (x : NodeEnd). EndHolds d b (turn_of (end_of x)) pivots number (end_of x)) (sym n.end_is) (inr (record { stopped = n.stopped; unread = refl; no_ray = ap parts_of n.no_ray }))

-- ---- the best point

best_searches : (d : DeckValue) (p : PointValue) (old new : Option Incumbent) (s : Search) (history : History) (hand : Option ℕ) → IsBestOf d p old new → IsSmallPoint p → IsSearch Turn d (pos 0) history hand s.growth s.open old s.least → IsSearch Turn d (pos 0) history hand s.growth s.open new s.least
best_searches d p old new s history hand (inl b) small k =
    let incumbent : IsIncumbent d b.best = record {
      small = subst IsSmallPoint (sym b.point_is) small;
      solution = record {
        feasible = subst (Feasible d) (sym b.point_is) b.feasible;
        objective = subst (λ (q : PointValue). HasObjective d q b.best.objective) (sym b.point_is) ((objective-law d p b.best.objective b.feasible.den).1 (sym b.objective_is));
      };
    } in
    subst (λ (o : Option Incumbent). IsSearch Turn d (pos 0) history hand s.growth s.open o s.least) (sym b.new_is)
    (improve_act Turn d (pos 0) history hand s.growth s.open old b.best s.least incumbent (improved old b.best.objective b.below) k)
  where
    improved : (o : Option Incumbent) (x : Rational) → IfSome (objective_of o) (λ v. ¬ IsAtMost v x) → IsImproved (objective_of o) (Some x)
    improved None x h = λ v e. absurd (cc)
    improved (Some i) x h = λ v e. let same : i.objective ≡ v = cc in subst (λ (z : Rational). IsAtMost x z) same (lower i.objective x h)
      where
        lower : (v w : Rational) → ¬ IsAtMost v w → IsAtMost w v
        lower v w h = grind (arith, ints)
best_searches d p old new s history hand (inr b) small k = subst (λ (o : Option Incumbent). IsSearch Turn d (pos 0) history hand s.growth s.open o s.least) (sym b.same) k

best_holds : (d : DeckValue) (p : PointValue) (y : MultipliersValue) (old new : Option Incumbent) (history : History) (n : Number Turn) → IsBestOf d p old new → n.told.end ≡ Reached p y → IsBest d history old → IsBest d (history ++ n ∷ []) new
best_holds d p y old new history n (inl b) end_is k =
    subst (IsBest d (history ++ n ∷ [])) (sym b.new_is)
    (best_improves d history old b.best n y (end_is ∙ ap (λ (q : PointValue). Reached q y) (sym b.point_is)) (subst (Feasible d) (sym b.point_is) b.feasible) (b.objective_is ∙ ap (objective d) (sym b.point_is)) b.below k)
best_holds d p y old new history n (inr b) end_is k =
    subst (IsBest d (history ++ n ∷ [])) (sym b.same)
    (best_stays d history old n (subst (IsNoBetter d old) (sym end_is) b.above) k)

-- where the key of the vertex does not close the node, the best point stays
best_kept : (d : DeckValue) (b : BoxValue) (p : PointValue) (y : MultipliersValue) (k : Key) (old new : Option Incumbent) → IsBestOf d p old new → (Feasible d p → VertexSays d b p y) → KeyIs (leaf_value d b y) y.y0 k → IsNotClosing d new k → new ≡ old
best_kept d b p y k old new (inl n) tight is none = absurd (vertex_closes d b p y k new (tight n.feasible) is (new_below d p old new n) none)
best_kept d b p y k old new (inr o) tight is none = o.same

-- there is still none where the point is not feasible
still_none : (d : DeckValue) (p : PointValue) (old new : Option Incumbent) → IsBestOf d p old new → ¬ Feasible d p → IsNone old → IsNone new
still_none d p old new (inl n) infeasible none = absurd (infeasible n.feasible)
still_none d p old new (inr o) infeasible none = subst (λ (x : Option Incumbent). IsNone x) (sym o.same) none

-- where there is no best point, no vertex is feasible
none_feasible : (d : DeckValue) (history : History) (best : Option Incumbent) → IsNone best → IsBest d history best → IsBest d history None
none_feasible d history None none best = best
none_feasible d history (Some i) none best = absurd (cc)

-- at most one entry waits for a child
one_more : (d : DeckValue) (b : BoxValue) (id : ℕ) (w : WhatValue) (more : List OpenNode) → ChildWaits d b id w more → length more ≤ 1
one_more d b id (Split branch) more c = absurd c
one_more d b id (Bounded y) more c = absurd c
one_more d b id (Empty y) more c = absurd c
one_more d b id (Void column) more c = let e = ap length c in omega (arith, e)
one_more d b id (OpenLeaf y) more c = let e = ap length c.1 in omega (arith, e)

-- a ray that is kept was shown by the start problem on the board with which the search began
shown_by : (d : DeckValue) (start : State) (most : ℕ) (g : GrowthValue) (history : History) (pivots left : ℕ) (board : State) (shown : Option (List ℤ)) (Holds : State → ℕ → ℕ → Type 0) (ray : List ℤ)
    → IsHistory d start most g history → AreFinished history → board ≡ state_behind start history → left ≡ left_behind most history → pivots ≤ left → IsNumberRun d (suc (length history)) board pivots shown Holds → ray_with history shown ≡ Some ray → HasShown d start most ray
shown_by d start most g [] pivots left board shown Holds ray told finished board_is left_is within run is =
    subst (λ (s : State). HasShown d s most ray) board_is
    (shown_first d board run.early ray run.begun most pivots run.steps run.adds (omega (arith, within, left_is)) (subst (λ (r : Option (List ℤ)). Begins d 1 board run.early r run.begun) is run.begins))
shown_by d start most g (n ∷ ns) pivots left board shown Holds ray told finished board_is left_is within run is = shown_law d start most g (n ∷ ns) ray told finished is

-- a vertex that did not end the search bounds its node where it is feasible
pub tight_of : (P Q : Type 0) (r : Option (Listed ℤ)) → (IsNone r → Q) → (IsSome r → ¬ P) → P → Q
tight_of P Q None says infeasible p = says refl
tight_of P Q (Some x) says infeasible p = absurd (infeasible refl p)

some_of : (r : Option (Listed ℤ)) → IsSome r → (x : Listed ℤ) × (r ≡ Some x)
some_of None some = absurd (cc)
some_of (Some x) some = (x, refl)

module _ (d : DeckValue) (start : State) (most : ℕ) (taken : OpenNode) (s : Search) (board : State) (left : ℕ) (t : HasTaken d start most taken s board left) where
  abbrev history : History
  history = t.going.history

  abbrev box : BoxValue
  box = box_at d s.growth taken.node

  -- `shown` is the ray that the turn has shown, and `kept` the search's own behind it
  module _ (pivots : ℕ) (after : State) (shown kept : Option (Listed ℤ)) (within : pivots ≤ left) (few : s.solved < 100000) (still : IsNotClosing d s.incumbent taken.key) (kept_is : parts_of kept ≡ ray_with history (parts_of shown)) (no_old : IsSome kept → IsNone s.incumbent) (solved : Solved) (solved_is : solved ≡ record { number = suc (length history); pivots = pivots }) where
    abbrev counted_search : Search
    counted_search = record s { solved = s.solved + 1; ray = kept }

    abbrev turn : TurnEnd → Turn
    turn e = record { before = board; after = after; left = left; ray = parts_of shown; handed = plain_multipliers taken.y; end = e }

    -- ---- at a vertex
    module _ (p : PointValue) (y : MultipliersValue) (read : IsReadVertex d box p y) (run : EndHolds d box (turn (Reached p y)) pivots (suc (length history)) (Reached p y)) where
      abbrev number : Number Turn
      number = record { id = taken.node; pivots = pivots; told = turn (Reached p y) }

      placed : OpenIs d box y
      placed = record { full = t.waits.bounds.full; small = read.below; y0 = read.says.positive }

      next_turn : IsNextTurn d start most s.growth history taken.node number
      next_turn = record { at = refl; before = t.going.board_is; left = t.going.left_is; few = subst (λ (k : ℕ). pivots ≤ k) t.going.left_is within; run = run; handed = t.handed }

      -- of a deck with a ray the vertex is feasible
      found_on : (point : Point) (x : Search) → IsFoundVertex d counted_search p point x → HasFound d start most x (plain_point point)
      found_on point x f =
          let ray = some_of kept f.ray in
          let kept_ray = sym kept_is ∙ ap parts_of ray.1 in
          subst (λ (z : Search). HasFound d start most z (plain_point point)) (sym f.after_is) (record {
            history = history;
            last = number;
            search = t.going.search;
            told = t.going.told;
            finished = t.going.finished;
            unnumbered = t.going.unnumbered;
            lineage = t.going.lineage;
            none_before = none_feasible d history s.incumbent (no_old f.ray) t.going.best;
            next = next_turn;
            own = y;
            end = ap (λ (q : PointValue). Reached q y) (sym f.same);
            solved = let counted = t.going.solved in omega (arith, counted);
            ray = ray.0;
            ray_is = ray.1;
            first = ray_more history number ∙ kept_ray;
            shown = shown_by d start most s.growth history pivots left board (parts_of shown) (λ begun early steps. AtVertex d box begun steps after p y) ray.0.items t.going.told t.going.finished t.going.board_is t.going.left_is within run kept_ray;
            feasible = subst (Feasible d) (sym f.same) f.feasible;
            small = subst IsSmallPoint (sym f.same) read.small;
          })

      module _ (tight : Feasible d p → VertexSays d box p y) (not_found : IsSome kept → ¬ Feasible d p) (best : Option Incumbent) (best_is : IsBestOf d p s.incumbent best) where
        searching : IsSearch Turn d (pos 0) history (Some taken.node) s.growth s.open best s.least
        searching = best_searches d p s.incumbent best s history (Some taken.node) best_is read.small t.going.search

        bests : IsBest d (history ++ number ∷ []) best
        bests = best_holds d p y s.incumbent best history number best_is refl t.going.best

        no_best : IsSome kept → IsNone best
        no_best some = still_none d p s.incumbent best best_is (not_found some) (no_old some)

        closed_on : (k : Key) (x : Search) → KeyIs (leaf_value d box y) y.y0 k → ClosedAtVertex d (with_best counted_search best) taken.node solved y k x → WentOn d start most s x after (left - pivots)
        closed_on k x key_is c =
            let holds = key_closes d box y k placed key_is best c.bound c.closing in
            let counts = key_bound d box y k placed key_is best c.bound c.closing in
            let same = sym c.closed.after_is in
            record {
              going = subst (λ (z : Search). IsGoing d start most None z after (left - pivots)) same
                  (leaf_goes d start most taken s board left t pivots after (Reached p y) (parts_of shown) kept within run still kept_is solved solved_is best searching bests tt no_best (Bounded y) (Some c.closed.least) holds (c.bound, counts, c.closed.lesser) refl (λ some. refl));
              solved = ap (λ (z : Search). z.solved) c.closed.after_is;
              waiting = let e = ap (λ (z : Search). length z.open) c.closed.after_is in omega (arith, e);
            }

        branched_on : (k : Key) (asked : Option Branch) (x : Search) → KeyIs (leaf_value d box y) y.y0 k → IfSome asked (IsBranchOf d p) → IfSome asked (Fits d box) → BranchedAtVertex d box (with_best counted_search best) taken solved asked y k x → WentOn d start most s x after (left - pivots)
        branched_on k asked x key_is is fits c =
            let h = c.branched in
            let same_best : best ≡ s.incumbent = best_kept d box p y k s.incumbent best best_is tight key_is c.open_still in
            let is_at : IsBranchOf d p c.branch = subst (λ (o : Option Branch). IfSome o (IsBranchOf d p)) c.asked_is is in
            let fits_at : Fits d box c.branch = subst (λ (o : Option Branch). IfSome o (Fits d box)) c.asked_is fits in
            let first = h.first_is (objective_of best) (pos 0) in
            let second = h.second_is (objective_of best) (pos 0) in
            record {
              going = subst (λ (z : Search). IsGoing d start most None z after (left - pivots)) (sym h.after_is)
                  (split_goes d start most taken s board left t pivots after (Reached p y) (parts_of shown) kept within run still kept_is solved solved_is best searching bests tt no_best p y refl c.branch fits_at is_at few (λ some. t.going.found (subst IsSome same_best some)) (none_closes d (history ++ number ∷ []) best box y k bests key_is c.open_still) h.first h.second h.first_more h.second_more first second h.first_handed h.second_handed);
              solved = ap (λ (z : Search). z.solved) h.after_is;
              waiting =
                  let e = ap (λ (z : Search). length z.open) h.after_is in
                  let one = one_more d (left_box d box c.branch) (length s.growth.nodes) h.first.what h.first_more first.waits in
                  let two = one_more d (right_box d box c.branch) (suc (length s.growth.nodes)) h.second.what h.second_more second.waits in
                  omega (arith, e, one, two, length-append (s.open ++ h.first_more) h.second_more, length-append s.open h.first_more);
            }

        stopped_on : (k : Key) (asked : Option Branch) (halt : Halt) (x : Search) → KeyIs (leaf_value d box y) y.y0 k → unsigned_abs k.value < 2 ^ 126 → k.id ≡ taken.key.id → k.depth ≡ taken.key.depth → (IsNone asked → AsksForNone d p) → StoppedAtGrid d (with_best counted_search best) taken.node solved asked y k halt x → HaltedAt d start most x halt after (left - pivots)
        stopped_on k asked halt x key_is key_size key_id key_depth none c =
            let same_best : best ≡ s.incumbent = best_kept d box p y k s.incumbent best best_is tight key_is c.open_still in
            let cause : TurnEnd = Halted (why.Grid solved.number) (Some y) in
            let stopped : EndHolds d box (turn cause) pivots (suc (length history)) cause = inl (record {
              begun = run.begun;
              early = run.early;
              steps = run.steps;
              begins = run.begins;
              adds = run.adds;
              holds = record { same = ap (λ (z : Solved). z.number) solved_is; point = p; own_is = y; vertex = run.holds; none = none (subst IsNone (sym c.none) refl); are = refl };
            }) in
            let own : HasOwn d box taken y halt.hand = record {
              node_is = c.node_is;
              multipliers = c.multipliers;
              key_is = subst (λ (z : Key). KeyIs (leaf_value d box y) y.y0 z) (sym c.key_is) key_is;
              key_size = subst (λ (z : Key). unsigned_abs z.value < 2 ^ 126) (sym c.key_is) key_size;
              key_id = ap (λ (z : Key). z.id) c.key_is ∙ key_id;
              key_depth = ap (λ (z : Key). z.depth) c.key_is ∙ key_depth;
            } in
            subst (λ (z : Search). HaltedAt d start most z halt after (left - pivots)) (ap (with_best counted_search) (sym same_best) ∙ sym c.same)
            (halts d start most taken s board left t pivots after cause (parts_of shown) kept within stopped still kept_is halt (Some y) no_old (ap (λ (z : Why). Halted z (Some y)) (sym c.cause)) c.node_is (c.number_is ∙ ap (λ (z : Solved). Some z) solved_is) few (own_waits d start most taken s board left t halt.hand y own read.below read.says.positive) (own_key d start most taken s board left t halt.hand y own) c.multipliers)

        led_on : (k : Key) (asked : Option Branch) (halt : Option Halt) (x : Search) → KeyIs (leaf_value d box y) y.y0 k → unsigned_abs k.value < 2 ^ 126 → k.id ≡ taken.key.id → k.depth ≡ taken.key.depth → IfSome asked (IsBranchOf d p) → (IsNone asked → AsksForNone d p) → IfSome asked (Fits d box)
            → VertexLed d box (with_best counted_search best) taken solved asked y k halt x → GoesOn d start most s (ending_of halt) x after (left - pivots)
        led_on k asked None x key_is key_size key_id key_depth is none fits (inl c) = closed_on k x key_is c
        led_on k asked None x key_is key_size key_id key_depth is none fits (inr c) = branched_on k asked x key_is is fits c
        led_on k asked (Some halt) x key_is key_size key_id key_depth is none fits c = stopped_on k asked halt x key_is key_size key_id key_depth none c

      not_found_goes : (halt : Option Halt) (x : Search) → (Feasible d p → VertexSays d box p y) → IsNoFound d box counted_search taken solved p y halt x → GoesOn d start most s (ending_of halt) x after (left - pivots)
      not_found_goes halt x tight n = let v = n.led in led_on tight n.not_found v.best v.best_is v.key v.asked halt x v.key_is v.key_size v.key_id v.key_depth v.asked_is v.none_is v.fits v.led

      vertex_goes : (led : Option Ending) (x : Search) → (IsNone kept → VertexSays d box p y) → VertexSettled d box counted_search taken solved p y led x → GoesOn d start most s led x after (left - pivots)
      vertex_goes None x says n = not_found_goes None x (tight_of (Feasible d p) (VertexSays d box p y) kept says n.not_found) n
      vertex_goes (Some (ending.Halted halt)) x says n = not_found_goes (Some halt) x (tight_of (Feasible d p) (VertexSays d box p y) kept says n.not_found) n
      vertex_goes (Some (ending.Found point)) x says f = found_on point x f

    -- ---- without a point
    empty_goes : (y : MultipliersValue) (led : Option Ending) (x : Search) → AreBelow (2 ^ 40) y → EmptySays d box y → EndHolds d box (turn (Emptied y)) pivots (suc (length history)) (Emptied y) → IsNone led → x ≡ emptied_search counted_search taken.node solved y → GoesOn d start most s led x after (left - pivots)
    empty_goes y (Some e) x below says run none same = absurd (cc)
    empty_goes y None x below says run none same =
        let number : Number Turn = record { id = taken.node; pivots = pivots; told = turn (Emptied y) } in
        let holds : EmptyIs d box y = record { full = t.waits.bounds.full; small = below; sign = says.sign; empties = says.empties } in
        record {
          going = subst (λ (z : Search). IsGoing d start most None z after (left - pivots)) (sym same)
              (leaf_goes d start most taken s board left t pivots after (Emptied y) (parts_of shown) kept within run still kept_is solved solved_is s.incumbent t.going.search (best_stays d history s.incumbent number tt t.going.best) tt no_old (Empty y) s.least holds refl refl t.going.found);
          solved = ap (λ (z : Search). z.solved) same;
          waiting = let e = ap (λ (z : Search). length z.open) same in omega (arith, e);
        }

    -- ---- stopped in the run
    hand_waits : (own : Option MultipliersValue) (hand : OpenNode) → IfSome own (OwnSays d) → IsKept d box taken own hand → (hand.node ≡ taken.node) × WaitsIn d s.growth hand × IsKeyOf s.growth hand × (plain_multipliers hand.y ≡ kept_multipliers (plain_multipliers taken.y) own)
    hand_waits None hand says is = (ap (λ (w : OpenNode). w.node) is, subst (WaitsIn d s.growth) (sym is) t.waits, subst (IsKeyOf s.growth) (sym is) t.key, ap (λ (w : OpenNode). plain_multipliers w.y) is)
    hand_waits (Some y) hand says is = (is.node_is, own_waits d start most taken s board left t hand y is says.below says.positive, own_key d start most taken s board left t hand y is, is.multipliers)

    stop_goes : (cause : Why) (own : Option MultipliersValue) (led : Option Ending) (x : Search) → IfSome own (OwnSays d) → EndHolds d box (turn (Halted cause own)) pivots (suc (length history)) (Halted cause own) → StoppedWith d box counted_search taken solved cause own led x
        → GoesOn d start most s led x after (left - pivots)
    stop_goes cause own None x says run c = absurd c
    stop_goes cause own (Some (ending.Found point)) x says run c = absurd c
    stop_goes cause own (Some (ending.Halted halt)) x says run c =
        let k = c.0 in
        let hand = hand_waits own halt.hand says k.kept in
        subst (λ (z : Search). HaltedAt d start most z halt after (left - pivots)) (sym c.1)
        (halts d start most taken s board left t pivots after (Halted cause own) (parts_of shown) kept within run still kept_is halt own no_old (ap (λ (z : Why). Halted z own) (sym k.cause_is)) hand.0 (k.number_is ∙ ap (λ (z : Solved). Some z) solved_is) few hand.1 hand.2 hand.3)

    -- ---- however it ended
    goes : (e : NodeEnd) (led : Option Ending) (x : Search) → EndSays d box kept e → EndHolds d box (turn (end_of e)) pivots (suc (length history)) (end_of e) → HasSettled d box counted_search taken solved e led x → GoesOn d start most s led x after (left - pivots)
    goes (end.Vertex point y) led x says run c = vertex_goes (plain_point point) (plain_multipliers y) says.0 run led x says.1 c
    goes (end.Empty y) led x says run c = empty_goes (plain_multipliers y) led x says.0 says.1 run c.0 c.1
    goes (end.Stopped cause own) led x says run c = stop_goes cause (option_map plain_multipliers own) led x (own_all own says) run c
      where
        own_all : (o : Option Multipliers) → IfSome o (λ y. OwnSays d (plain_multipliers y)) → IfSome (option_map plain_multipliers o) (OwnSays d)
        own_all None h = tt
        own_all (Some y) h = h

  -- the whole of it: the node got the next number, and was settled as its run ended
  pub solved_goes : (shown kept : Option (Listed ℤ)) → parts_of kept ≡ ray_with history (parts_of shown) → (IsSome kept → IsNone s.incumbent) → s.solved < 100000 → IsNotClosing d s.incumbent taken.key → (pivots : ℕ) → pivots ≤ left → (after : State) (e : NodeEnd) → EndSays d box kept e
      → NumberEndedAs d box board pivots left (suc (length history)) (record { end = e; ray = shown }) after → (r : Result (Option Ending) Memory) (x : Search)
      → IfOk r (λ led. HasSettled d box (record s { solved = s.solved + 1; ray = kept }) taken (record { number = s.solved + 1; pivots = pivots }) e led x) → IfOk r (λ led. GoesOn d start most s led x after (left - pivots))
  solved_goes shown kept kept_is no_old few still pivots within after e says ended r x settled =
      let counted = t.going.solved in
      let next : s.solved + 1 ≡ suc (length history) = omega (arith, counted) in
      let solved : Solved = record { number = s.solved + 1; pivots = pivots } in
      let solved_is : solved ≡ record { number = suc (length history); pivots = pivots } = λ i. record { number = next i; pivots = pivots } in
      let run = turn_holds d box board after pivots left (suc (length history)) shown (plain_multipliers taken.y) e ended in
      ok_map (λ (led : Option Ending). HasSettled d box (record s { solved = s.solved + 1; ray = kept }) taken solved e led x) (λ (led : Option Ending). GoesOn d start most s led x after (left - pivots)) r
      (λ led c. goes pivots after shown kept within few still kept_is no_old solved solved_is e led x says run c) settled
