-- The answers of a search that is over, and of one that stopped: accepted, right, fit to be checked, and telling the search.
use Rattle.std.proofs.Common.{◌≡◌, ℕ, zero, suc, ◌≤◌, pos, inl, Bool, List, [], ◌∷◌, length, map, Option, Some, None, refl, sym, subst, arith}
use Rattle.std.specs.Prelude.{ℤ, All, IsSome, IsNone, IfSome}
use Rattle.um_laws.specs.Rational.{Rational}
use Rattle.um_model.specs.Values.{DeckValue, PointValue}
use Rattle.um_model.specs.Boxes.{BoxValue}
use Rattle.um_model.specs.WellFormed.{IsDeck}
use Rattle.um_model.specs.Accepted.{ToleranceHolds, IsAccepted}
use Rattle.um_model.specs.AnswerValues.{AnswerValue, NodeValue, WhatValue, Split, Bounded, Empty, Void, OpenLeaf, kind_of_stop}
use Rattle.um_model.specs.Checkable.{IsCheckable, IsCheckableWhat, IsCheckablePoint}
use Rattle.um_model.specs.Right.{IsRight}
use Rattle.um_model.specs.Rays.{Ray}
use Rattle.um_opening.proofs.Begun.{shown-ray-law}
use Rattle.um_model.specs.declared.answer.AnswerKind.{AnswerKind}
use Rattle.um_model.specs.declared.answer.AnswerKind.TheVariants.{Optimal, Infeasible as HasNone, Unbounded, Limit, Overflow}
use Rattle.um_model.specs.declared.answer.Why.{Why}
use Rattle.um_model.specs.declared.answer.Why.TheVariants as why
use Rattle.um_soundness.proofs.AcceptedTrees.{accepted-is-right-law}
use Rattle.um_lp.specs.States.{State}
use Rattle.um_tree.specs.Growths.{GrowthValue, node_at, what_at, AreInside, IsTold}
use Rattle.um_cover.specs.Sites.{box_at}
use Rattle.um_cover.specs.Nodes.{NodeIs}
use Rattle.um_nodes.specs.declared.open_nodes.OpenNode.{OpenNode}
use Rattle.um_progress.specs.declared.incumbent.Incumbent.{Incumbent}
use Rattle.um_progress.specs.Waits.{id_of}
use Rattle.um_progress.specs.Numbers.{IsNumbered}
use Rattle.um_progress.specs.Ends.{stopped}
use Rattle.um_progress.specs.Incumbents.{point_of, objective_of}
use Rattle.um_progress.specs.Searches.{IsIncumbent, IsBounded, IsClosedAt, IsSearch}
use Rattle.um_progress.specs.Stops.{bound_of, IsBoundOfOne, IsStopping}
use Rattle.um_progress.proofs.Settling.{optimal_accepted, infeasible_accepted, stopped_accepted}
use Rattle.um_turns.specs.Turns.{Turn, IsNoGrid}
use Rattle.um_turns.specs.Histories.{History, IsHistory, AreFinished, ray_of}
use Rattle.um_loop.proofs.Settled.{some_kept}
use Rattle.um_search.specs.declared.budget.Budget.{Budget}
use Rattle.um_loop.specs.declared.search.Search.{Search}
use Rattle.um_search.specs.Told.{IsHaltedLast, IsEndedBy, HasSpentNodes, HasSpentPivots, OpenLeavesAreHanded, HaveOneAndNone, TellsSearch, TellsOf, TellsAnswer}
use Rattle.um_loop.specs.Checkables.{AreCheckable}
use Rattle.um_search.specs.Endings.{HasRunOut, IsFound, kind_of_over}
use Rattle.um_search.proofs.Emptying.{AreHandedBut, HasHand, IsEmptying}
use Rattle.um_turns.proofs.Chains.{pivots_all}
use Rattle.um_search.proofs.SpentPivots.{pivots_spent}
use Rattle.um_search.proofs.SpentNodes.{none_solved}
use Rattle.um_search.proofs.HandedLeaves.{none_but}
use Rattle.um_search.proofs.EndlessLeaves.{least_none, bound_none}
use Rattle.um_search.proofs.PlainLeaves.{have_one_and_none, no_bounds}

pub record AnswersFor (d : DeckValue) (budget : Budget) (a : AnswerValue) : Type 0 where
  pub accepted : IsAccepted d a
  pub right : IsRight d a
  pub checkable : IsCheckable d a
  pub tells : TellsAnswer d budget a

-- an answer of another kind than unbounded tells its search
tells_search : (kind : AnswerKind) (d : DeckValue) (budget : Budget) (a : AnswerValue) → ¬ (kind ≡ Unbounded) → TellsSearch d budget a → TellsOf kind d budget a
tells_search Optimal d budget a other h = h
tells_search HasNone d budget a other h = h
tells_search Unbounded d budget a other h = absurd (other refl)
tells_search Limit d budget a other h = h
tells_search Overflow d budget a other h = h

over_kind : (i : Option Incumbent) → ¬ (kind_of_over i ≡ Unbounded)
over_kind None e = absurd (cc)
over_kind (Some i) e = absurd (cc)

stop_kind : (w : Why) → ¬ (kind_of_stop w ≡ Unbounded)
stop_kind why.Nodes e = absurd (cc)
stop_kind why.Pivots e = absurd (cc)
stop_kind (why.Points column) e = absurd (cc)
stop_kind (why.Grid number) e = absurd (cc)
stop_kind (why.Pivot number step wide) e = absurd (cc)
stop_kind (why.Value number step wide) e = absurd (cc)
stop_kind (why.Leaf number) e = absurd (cc)
stop_kind (why.Vertex number) e = absurd (cc)
stop_kind why.Ray e = absurd (cc)

-- without a best point there is no point
no_point : (i : Option Incumbent) → IsNone i → IsNone (point_of i)
no_point None none = refl
no_point (Some i) none = absurd (cc)

tolerance : (d : DeckValue) → d.arcs ≡ [] → ToleranceHolds d (pos 0)
tolerance d no_arcs = record { without_arcs = λ _. refl; least = λ some. absurd (some no_arcs); most = λ some. absurd (some no_arcs) }

-- ---- what can be checked
nodes_checkable : (d : DeckValue) (g : GrowthValue) → AreCheckable d g → (ids : List ℕ) → AreInside (length g.nodes) ids → All (λ (n : NodeValue). IsCheckableWhat d n.what) (map (node_at g) ids)
nodes_checkable d g all [] inside k default h = absurd (omega arith)
nodes_checkable d g all (j ∷ js) inside zero default h = all j inside.0
nodes_checkable d g all (j ∷ js) inside (suc k) default h = nodes_checkable d g all js inside.1 k default (omega arith)

tree_checkable : (d : DeckValue) (g : GrowthValue) (tree : List NodeValue) → AreCheckable d g → IsTold g tree → All (λ (n : NodeValue). IsCheckableWhat d n.what) tree
tree_checkable d g tree all told = subst (All (λ (n : NodeValue). IsCheckableWhat d n.what)) (sym told.tree_is) (nodes_checkable d g all told.ids told.is.inside)

point_checkable : (d : DeckValue) (i : Option Incumbent) → IfSome i (IsIncumbent d) → IfSome (point_of i) (IsCheckablePoint d)
point_checkable d None best = tt
point_checkable d (Some i) best = record { den = best.solution.feasible.den; parts = best.solution.feasible.parts }

-- ---- nothing waits
abbrev over_answer : Option Incumbent → Option Rational → List NodeValue → AnswerValue
over_answer i least tree = record { kind = kind_of_over i; why = None; tolerance = pos 0; objective = objective_of i; bound = least; point = point_of i; ray = None; tree = tree }

unbounded : (d : DeckValue) (b : BoxValue) (w : WhatValue) → NodeIs d None (pos 0) b w → ¬ IsBounded w
unbounded d b (Split branch) h is = is
unbounded d b (Bounded y) h is = h.closes
unbounded d b (Empty y) h is = is
unbounded d b (Void column) h is = is
unbounded d b (OpenLeaf y) h is = is

module _ (d : DeckValue) (no_arcs : d.arcs ≡ []) (history : History) (g : GrowthValue) (tree : List NodeValue) (told : IsTold g tree) where
  over_accepted : (i : Option Incumbent) (least : Option Rational) → (IsSome i → IsSome least) → IsSearch Turn d (pos 0) history None g [] i least → IsAccepted d (over_answer i least tree)
  over_accepted (Some i) (Some x) found s = optimal_accepted Turn d (pos 0) history g i x tree s (tolerance d no_arcs) told
  over_accepted (Some i) None found s = absurd (let h = found refl in cc)
  over_accepted None (Some x) found s = let a = s.closed.among in absurd (unbounded d (box_at d g a.0) (what_at g a.0) (s.nodes a.0 a.1) a.2)
  over_accepted None None found s = infeasible_accepted Turn d (pos 0) history g None tree s (tolerance d no_arcs) told

module _ (d : DeckValue) (formed : IsDeck d) (no_arcs : d.arcs ≡ []) (budget : Budget) (s : Search) (over : HasRunOut d budget.pivots s) (within : s.solved ≤ budget.nodes) (checkable : AreCheckable d s.growth) (tree : List NodeValue) (told : IsTold s.growth tree) where
  search : IsSearch Turn d (pos 0) over.ran.going.history None s.growth [] s.incumbent s.least
  search = subst (λ (ws : List OpenNode). IsSearch Turn d (pos 0) over.ran.going.history None s.growth ws s.incumbent s.least) over.ran.none over.ran.going.search

  accepts : IsAccepted d (over_answer s.incumbent s.least tree)
  accepts = over_accepted d no_arcs over.ran.going.history s.growth tree told s.incumbent s.least over.ran.going.found search

  handed_over : OpenLeavesAreHanded s.growth over.ran.going.history
  handed_over id inside = none_but s.growth over.ran.going.history [] search.all id inside (λ a. a)

  none_over : IsSome (ray_of over.ran.going.history) → IsNone s.incumbent
  none_over some = over.ran.going.no_best (some_kept s.ray (ray_of over.ran.going.history) over.ran.going.ray_is some)

  plain_over : IsSome (ray_of over.ran.going.history) → HaveOneAndNone s.growth
  plain_over some = have_one_and_none d formed no_arcs over.start budget.pivots s.growth s.incumbent over.ran.going.history None search.growth search.nodes search.numbered over.ran.going.told handed_over over.ran.going.finished some

  no_bounds_over : IsSome (ray_of over.ran.going.history) → IsNone s.least
  no_bounds_over some =
      least_none (IsClosedAt d s.growth) s.least search.closed.among
      (λ x at. no_bounds d formed no_arcs over.start budget.pivots s.growth s.incumbent over.ran.going.history None search.growth search.nodes search.numbered over.ran.going.told handed_over over.ran.going.finished some (none_over some) at.0 x at.1 at.3)

  over_answers : AnswersFor d budget (over_answer s.incumbent s.least tree)
  over_answers = record {
    accepted = accepts;
    right = accepted-is-right-law d (over_answer s.incumbent s.least tree) formed accepts;
    checkable = record { point = point_checkable d s.incumbent search.best; ray = tt; nodes = tree_checkable d s.growth tree checkable told };
    tells = tells_search (kind_of_over s.incumbent) d budget (over_answer s.incumbent s.least tree) (over_kind s.incumbent) (record {
      tolerance = refl;
      ray = refl;
      growth = s.growth;
      is = search.growth;
      tree = told;
      start = over.start;
      history = over.ran.going.history;
      told = over.ran.going.told;
      numbered = search.numbered;
      handed = handed_over;
      unnumbered = over.ran.going.unnumbered;
      lineage = over.ran.going.lineage;
      needed = over.ran.going.needed;
      best = record { incumbent = s.incumbent; best = over.ran.going.best; point = refl; objective = refl };
      ended = over.ran.going.finished;
      no_grid = tt;
      nodes = subst (λ (k : ℕ). k ≤ budget.nodes) over.ran.going.solved within;
      pivots = let h = pivots_all over.start budget.pivots over.ran.going.history over.ran.going.told.chained in omega (arith, h);
      spent_nodes = λ e. absurd (cc);
      spent_pivots = λ e. absurd (cc);
      no_point = λ some. no_point s.incumbent (none_over some);
      no_costs = plain_over;
      no_bound = no_bounds_over;
    });
  }

  pub over_answered : (kind : AnswerKind) (objective : Option Rational) (point : Option PointValue) → kind ≡ kind_of_over s.incumbent → objective ≡ objective_of s.incumbent → point ≡ point_of s.incumbent
      → AnswersFor d budget (record { kind = kind; why = None; tolerance = pos 0; objective = objective; bound = s.least; point = point; ray = None; tree = tree })
  over_answered kind objective point k o p =
      subst (λ (x : AnswerKind). AnswersFor d budget (record { kind = x; why = None; tolerance = pos 0; objective = objective; bound = s.least; point = point; ray = None; tree = tree })) (sym k)
      (subst (λ (x : Option Rational). AnswersFor d budget (record { kind = kind_of_over s.incumbent; why = None; tolerance = pos 0; objective = x; bound = s.least; point = point; ray = None; tree = tree })) (sym o)
      (subst (λ (x : Option PointValue). AnswersFor d budget (record { kind = kind_of_over s.incumbent; why = None; tolerance = pos 0; objective = objective_of s.incumbent; bound = s.least; point = x; ray = None; tree = tree })) (sym p) over_answers))

-- ---- the search stopped
spent_by : (d : DeckValue) (start : State) (budget : Budget) (g : GrowthValue) (history : History) → IsHistory d start budget.pivots g history → IsHaltedLast history why.Pivots → HasSpentPivots d budget g history
spent_by d start budget g history told h =
    subst (HasSpentPivots d budget g) (sym h.history_is) (pivots_spent d start budget g h.before h.last h.own (subst (IsHistory d start budget.pivots g) h.history_is told) h.end)

spent_between : (d : DeckValue) (start : State) (budget : Budget) (best : Option Rational) (g : GrowthValue) (ids : List ℕ) (history : History) → IsHistory d start budget.pivots g history → IsNumbered Turn g history → AreFinished history → length history ≡ budget.nodes → HasHand d best g ids → HasSpentNodes d budget best g history
spent_between d start budget best g ids history told numbered finished all hand = record { all = all; unsolved = none_solved d start budget.pivots g history told numbered finished; hand = hand.hand; fresh = hand.fresh; own = hand.own; own_is = hand.own_is; open_still = hand.open_still }

cause_is : (a b : Why) → Some a ≡ Some b → a ≡ b
cause_is a b e = cc

module _ (d : DeckValue) (formed : IsDeck d) (no_arcs : d.arcs ≡ []) (budget : Budget) (cause : Why) (i : Option Incumbent) (g : GrowthValue) (ws : List OpenNode) (endless : Bool) (least : Option Rational) (none : ws ≡ []) (no_grid : IsNoGrid cause) (s : IsEmptying d budget cause i g ws endless least) (tree : List NodeValue) (told : IsTold g tree) where
  abbrev answer : AnswerValue
  answer = stopped (kind_of_stop cause) cause (pos 0) i (bound_of endless least) tree

  stopping : IsStopping Turn d (pos 0) s.history g [] i endless least
  stopping = subst (λ (xs : List OpenNode). IsStopping Turn d (pos 0) s.history g xs i endless least) none s.stopping

  stop_accepts : IsAccepted d answer
  stop_accepts = stopped_accepted Turn d (pos 0) s.history g i endless least (kind_of_stop cause) cause tree stopping (tolerance d no_arcs) refl told

  handed_stop : OpenLeavesAreHanded g s.history
  handed_stop id inside = (subst (λ (xs : List OpenNode). AreHandedBut g s.history (map id_of xs)) none s.others) id inside (λ a. a)

  plain_stop : IsSome (ray_of s.history) → HaveOneAndNone g
  plain_stop some = have_one_and_none d formed no_arcs s.start budget.pivots g i s.history (Some cause) stopping.draining.growth stopping.draining.nodes stopping.draining.numbered s.told handed_stop s.ended some

  no_bounds_stop : IsSome (ray_of s.history) → IsNone (bound_of endless least)
  no_bounds_stop some =
      bound_none endless least
      (least_none (λ (x : Rational). IsBoundOfOne d g [] (Some x)) least stopping.draining.counted.some
      (λ x at. no_bounds d formed no_arcs s.start budget.pivots g i s.history (Some cause) stopping.draining.growth stopping.draining.nodes stopping.draining.numbered s.told handed_stop s.ended some (s.no_best some) at.0 x at.1 at.3))

  stop_answers : AnswersFor d budget answer
  stop_answers = record {
    accepted = stop_accepts;
    right = accepted-is-right-law d answer formed stop_accepts;
    checkable = record { point = point_checkable d i stopping.draining.best; ray = tt; nodes = tree_checkable d g tree s.checkable told };
    tells = tells_search (kind_of_stop cause) d budget answer (stop_kind cause) (record {
      tolerance = refl;
      ray = refl;
      growth = g;
      is = stopping.draining.growth;
      tree = told;
      start = s.start;
      history = s.history;
      told = s.told;
      numbered = stopping.draining.numbered;
      handed = handed_stop;
      unnumbered = s.unnumbered;
      lineage = s.lineage;
      needed = s.needed;
      best = record { incumbent = i; best = s.best; point = refl; objective = refl };
      ended = s.ended;
      no_grid = no_grid;
      nodes = s.nodes;
      pivots = let h = pivots_all s.start budget.pivots s.history s.told.chained in omega (arith, h);
      spent_nodes = λ e. spent_between d s.start budget (objective_of i) g (map id_of ws) s.history s.told stopping.draining.numbered (subst (IsEndedBy s.history) e s.ended) (s.all (cause_is cause why.Nodes e)) (s.hand (cause_is cause why.Nodes e));
      spent_pivots = λ e. spent_by d s.start budget g s.history s.told (subst (IsEndedBy s.history) e s.ended);
      no_point = λ some. no_point i (s.no_best some);
      no_costs = plain_stop;
      no_bound = no_bounds_stop;
    });
  }

  pub stop_answered : (kind : AnswerKind) (objective bound : Option Rational) (point : Option PointValue) → kind ≡ kind_of_stop cause → objective ≡ objective_of i → bound ≡ bound_of endless least → point ≡ point_of i
      → AnswersFor d budget (record { kind = kind; why = Some cause; tolerance = pos 0; objective = objective; bound = bound; point = point; ray = None; tree = tree })
  stop_answered kind objective bound point k o b p =
      subst (λ (x : AnswerKind). AnswersFor d budget (record { kind = x; why = Some cause; tolerance = pos 0; objective = objective; bound = bound; point = point; ray = None; tree = tree })) (sym k)
      (subst (λ (x : Option Rational). AnswersFor d budget (record { kind = kind_of_stop cause; why = Some cause; tolerance = pos 0; objective = x; bound = bound; point = point; ray = None; tree = tree })) (sym o)
      (subst (λ (x : Option Rational). AnswersFor d budget (record { kind = kind_of_stop cause; why = Some cause; tolerance = pos 0; objective = objective_of i; bound = x; point = point; ray = None; tree = tree })) (sym b)
      (subst (λ (x : Option PointValue). AnswersFor d budget (record { kind = kind_of_stop cause; why = Some cause; tolerance = pos 0; objective = objective_of i; bound = bound_of endless least; point = x; ray = None; tree = tree })) (sym p) stop_answers)))

-- ---- a feasible point of a deck with a ray
abbrev found_answer : PointValue → List ℤ → AnswerValue
found_answer p ray = record { kind = Unbounded; why = None; tolerance = pos 0; objective = None; bound = None; point = Some p; ray = Some ray; tree = [] }

module _ (d : DeckValue) (formed : IsDeck d) (no_arcs : d.arcs ≡ []) (budget : Budget) (s : Search) (p : PointValue) (is : IsFound d budget.pivots s p) (within : s.solved ≤ budget.nodes) where
  abbrev ray : List ℤ
  ray = is.found.ray.items

  its_ray : Ray d ray
  its_ray = shown-ray-law d is.start is.found.shown.pivots ray formed no_arcs is.found.told.starts is.found.told.board is.found.shown.shows

  found_accepts : IsAccepted d (found_answer p ray)
  found_accepts =
      inl (
        tolerance d no_arcs,
        inl (
          record { cause = refl; fields = record { point = refl; objective = refl; bound = refl; ray = refl; tree = refl } },
          inl (
            record { point = is.found.small; ray = is.found.shown.shows.small },
            inl (
              is.found.feasible,
              inl (
                tt,
                inl (its_ray, refl),
              ),
            ),
          ),
        ),
      )

  found_answers : AnswersFor d budget (found_answer p ray)
  found_answers = record {
    accepted = found_accepts;
    right = accepted-is-right-law d (found_answer p ray) formed found_accepts;
    checkable = record { point = record { den = is.found.feasible.den; parts = is.found.feasible.parts }; ray = its_ray.parts; nodes = λ k default h. absurd (omega arith) };
    tells = record {
      tolerance = refl;
      growth = s.growth;
      is = is.found.search.growth;
      start = is.start;
      history = is.found.history;
      told = is.found.told;
      numbered = is.found.search.numbered;
      unnumbered = is.found.unnumbered;
      lineage = is.found.lineage;
      finished = is.found.finished;
      none_before = is.found.none_before;
      last = is.found.last;
      fresh = is.found.search.in_hand;
      next = is.found.next;
      point = p;
      own = is.found.own;
      end = is.found.end;
      feasible = is.found.feasible;
      point_is = refl;
      ray = ray;
      ray_is = refl;
      first = is.found.first;
      shown = is.found.shown;
      nodes = let solved = is.found.solved in omega (arith, solved, within);
      pivots = let all = pivots_all is.start budget.pivots is.found.history is.found.told.chained in let few = is.found.next.few in omega (arith, all, few);
    };
  }

  -- whatever fields say so
  pub found_answered : (given : Option (List ℤ)) (tree : List NodeValue) → given ≡ Some ray → tree ≡ []
      → AnswersFor d budget (record { kind = Unbounded; why = None; tolerance = pos 0; objective = None; bound = None; point = Some p; ray = given; tree = tree })
  found_answered given tree r t =
      subst (λ (x : Option (List ℤ)). AnswersFor d budget (record { kind = Unbounded; why = None; tolerance = pos 0; objective = None; bound = None; point = Some p; ray = x; tree = tree })) (sym r)
      (subst (λ (x : List NodeValue). AnswersFor d budget (record { kind = Unbounded; why = None; tolerance = pos 0; objective = None; bound = None; point = Some p; ray = Some ray; tree = x })) (sym t) found_answers)
