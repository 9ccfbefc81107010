-- A search of a deck without arcs does not stop for its grid: a vertex that asks for no branch closes its node.
use Rattle.std.proofs.Common.{◌≡◌, ℕ, ◌-◌, inl, inr, Option, Some, None, refl, sym, subst}
use Rattle.std.specs.Prelude.{ℤ, IfSome, IsNone, option_map, Result, IfOk}
use Rattle.um_num.specs.Listed.{Listed}
use Rattle.um_num.specs.declared.Memory.{Memory}
use Rattle.um_multipliers.specs.declared.multipliers.Multipliers.{Multipliers}
use Rattle.um_multipliers.specs.PlainMultipliers.{MultipliersValue, plain_multipliers}
use Rattle.um_model.specs.Values.{DeckValue, PointValue, plain_point}
use Rattle.um_model.specs.Boxes.{BoxValue}
use Rattle.um_model.specs.declared.answer.Why.{Why}
use Rattle.um_model.specs.declared.answer.Why.TheVariants as why
use Rattle.um_model.specs.declared.branch.Branch.{Branch}
use Rattle.um_model.specs.declared.tree.Solved.{Solved}
use Rattle.um_lp.specs.States.{State}
use Rattle.um_nodes.specs.declared.open_nodes.OpenNode.{OpenNode}
use Rattle.um_opening.specs.Openings.{StoppedOpening}
use Rattle.um_opening.specs.Numbers.{NumberEndedAs}
use Rattle.um_model.specs.Feasible.{Feasible}
use Rattle.um_solving.specs.Laws.{VertexSays}
use Rattle.um_solving.specs.Solvings.{StoppedBy}
use Rattle.um_solving.specs.declared.node.NodeEnd.{NodeEnd}
use Rattle.um_solving.specs.declared.node.NodeEnd.TheVariants as end
use Rattle.um_loop.specs.declared.search.Search.{Search}
use Rattle.um_loop.specs.declared.search.Halt.{Halt}
use Rattle.um_loop.specs.declared.search.Ending.{Ending}
use Rattle.um_loop.specs.declared.search.Ending.TheVariants as ending
use Rattle.um_loop.specs.Goings.{IsNoGridEnding}
use Rattle.um_turns.specs.Turns.{IsNoGrid}
use Rattle.um_loop.specs.Steps.{IsVertex, AfterVertex, StoppedWith, EndSays, HasSettled}
use Rattle.um_loop.proofs.Goes.{tight_of}
use Rattle.um_loop.proofs.KeysClose.{best_below, vertex_closes}
use Rattle.um_loop.proofs.Results.{ok_map}

-- at a vertex
no_stop : (d : DeckValue) (b : BoxValue) (before : Search) (taken : OpenNode) (solved : Solved) (p : PointValue) (y : MultipliersValue) (halt : Halt) (after : Search) → IsVertex d b p y → ¬ AfterVertex d b before taken solved p y (Some halt) after
no_stop d b before taken solved p y halt after is v =
    let asks = v.none_is (subst (λ (o : Option Branch). IsNone o) (sym v.led.none) refl) in
    let feasible = is.read.feasible asks in
    vertex_closes d b p y v.key v.best (is.tight feasible) v.key_is (best_below d p before.incumbent v.best v.best_is feasible) v.led.open_still

-- in the run
run_stop : (d : DeckValue) (b : BoxValue) (before : State) (early pivots left number : ℕ) (cause : Why) (own : Option MultipliersValue) → StoppedBy d b before early pivots left number cause own → IsNoGrid cause
run_stop d b before early pivots left number why.Nodes own h = tt
run_stop d b before early pivots left number why.Pivots own h = tt
run_stop d b before early pivots left number (why.Points column) own h = tt
run_stop d b before early pivots left number (why.Grid told) own h = absurd h
run_stop d b before early pivots left number (why.Pivot told step wide) own h = tt
run_stop d b before early pivots left number (why.Value told step wide) own h = tt
run_stop d b before early pivots left number (why.Leaf told) own h = tt
run_stop d b before early pivots left number (why.Vertex told) own h = tt
run_stop d b before early pivots left number why.Ray own h = tt

-- at the opening
first_stop : (d : DeckValue) (before : State) (pivots left : ℕ) (cause : Why) (after : State) → StoppedOpening d before pivots left cause after → IsNoGrid cause
first_stop d before pivots left why.Nodes after h = tt
first_stop d before pivots left why.Pivots after h = tt
first_stop d before pivots left (why.Points column) after h = tt
first_stop d before pivots left (why.Grid told) after h = absurd h
first_stop d before pivots left (why.Pivot told step wide) after h = tt
first_stop d before pivots left (why.Value told step wide) after h = tt
first_stop d before pivots left (why.Leaf told) after h = tt
first_stop d before pivots left (why.Vertex told) after h = tt
first_stop d before pivots left why.Ray after h = tt

cause_same : (a b : Why) (own : Option Multipliers) → end.Stopped a own ≡ end.Stopped b None → b ≡ a
cause_same a b own e = cc

number_stop : (d : DeckValue) (b : BoxValue) (before : State) (pivots left number : ℕ) (cause : Why) (own : Option Multipliers) (shown : Option (Listed ℤ)) (after : State) → NumberEndedAs d b before pivots left number (record { end = end.Stopped cause own; ray = shown }) after → IsNoGrid cause
number_stop d b before pivots left number cause own shown after (inl r) = run_stop d b r.begun r.early r.steps (left - r.early) number cause (option_map plain_multipliers own) r.holds
number_stop d b before pivots left number cause own shown after (inr n) = subst IsNoGrid (cause_same cause n.cause own n.end_is) (first_stop d before pivots left n.cause after n.stopped.stopped)

module _ (d : DeckValue) (b : BoxValue) (before : Search) (taken : OpenNode) (solved : Solved) (board : State) (pivots left number : ℕ) (shown : Option (Listed ℤ)) (state : State) (after : Search) where
  stopped : (cause : Why) (own : Option MultipliersValue) (led : Option Ending) → IsNoGrid cause → StoppedWith d b before taken solved cause own led after → IfSome led IsNoGridEnding
  stopped cause own None off c = tt
  stopped cause own (Some (ending.Halted halt)) off c = subst IsNoGrid (sym c.0.cause_is) off
  stopped cause own (Some (ending.Found point)) off c = tt

  settled : (e : NodeEnd) (led : Option Ending) → EndSays d b before.ray e → NumberEndedAs d b board pivots left number (record { end = e; ray = shown }) state → HasSettled d b before taken solved e led after → IfSome led IsNoGridEnding
  settled (end.Vertex point y) None says ended c = tt
  settled (end.Vertex point y) (Some (ending.Halted halt)) says ended c = absurd (no_stop d b before taken solved (plain_point point) (plain_multipliers y) halt after (record { read = says.0; tight = tight_of (Feasible d (plain_point point)) (VertexSays d b (plain_point point) (plain_multipliers y)) before.ray says.1 c.not_found }) c.led)
  settled (end.Vertex point y) (Some (ending.Found found)) says ended c = tt
  settled (end.Empty y) None says ended c = tt
  settled (end.Empty y) (Some led) says ended c = absurd (let none = c.0 in cc)
  settled (end.Stopped cause own) led says ended c = stopped cause (option_map plain_multipliers own) led (number_stop d b board pivots left number cause own shown state ended) c

  -- however the node ended
  pub stops_off_grid : (e : NodeEnd) (r : Result (Option Ending) Memory) → EndSays d b before.ray e → NumberEndedAs d b board pivots left number (record { end = e; ray = shown }) state → IfOk r (λ led. HasSettled d b before taken solved e led after) → IfOk r (λ led. IfSome led IsNoGridEnding)
  stops_off_grid e r says ended c = ok_map (λ (led : Option Ending). HasSettled d b before taken solved e led after) (λ (led : Option Ending). IfSome led IsNoGridEnding) r (λ led h. settled e led says ended h) c
