use Rattle.std.proofs.Common.{◌≡◌, Bool, true, false, not, Option, Some, None, sym, subst}
use Rattle.std.specs.Prelude.{IsSome, IsNone, is_some}
use Rattle.um_model.specs.Values.{plain_point}
use Rattle.um_model.specs.Feasible.{Feasible}
use Rattle.um_multipliers.specs.PlainMultipliers.{plain_multipliers}
use Rattle.um_solving.specs.declared.node.NodeEnd.{NodeEnd}
use Rattle.um_loop.specs.declared.search.Ending.{Ending}
use Rattle.um_loop.specs.Steps.{HasSettled, VertexSettled}
use Rattle.um_loop.proofs.KeptRays.{no_found_settles}
use Rattle.um_loop.proofs.search.Search.settle.Goals as goal
use Rattle.um_loop.proofs.search.Search.settle.Goals.{else-is_some-via-then-is_some+else-is_none, else-is_some-via-else-is_some}

false_none : {X : Type 0} (o : Option X) (b : Bool) → IsNone o → is_some o ≡ not b → b ≡ false → ⊥
false_none None true none is other = absurd (cc)
false_none None false none is other = absurd (cc)
false_none (Some x) b none is other = absurd (cc)

false_some : {X : Type 0} (o : Option X) (b : Bool) → IsSome o → b ≡ is_some o → b ≡ false → ⊥
false_some None b some is other = absurd (cc)
false_some (Some x) b some is other = absurd (cc)

pub returns-in_ok-halt-in-Vertex : goal.returns-in_ok-halt-in-Vertex
returns-in_ok-halt-in-Vertex c =
    let d = c.args.deck.now in
    let box = c.args.node.now.limits in
    let s = c.args.self.now in
    let p = plain_point c.in-Vertex.point in
    let y = plain_multipliers c.in-Vertex.y in
    let after = c.at_vertex.new.self in
    let not_found : IsSome s.ray → ¬ Feasible d p = elim c.else-is_some.branch [
      | else-is_some-via-then-is_some+else-is_none w ↦ λ some feasible. (let none : IsNone w.feasible.result = w.feasible.ensures.feasible.1 feasible in false_none w.feasible.result w.is_none.result none w.is_none.ensures w.if-is_none.false)
      | else-is_some-via-else-is_some w ↦ λ some feasible. false_some s.ray c.is_some.result some c.is_some.ensures w.if-is_some.false
    ] in
    subst (λ (e : NodeEnd). HasSettled d box s c.args.taken c.args.solved e c.halted.result after) (sym c.in-Vertex.is)
    (subst (λ (led : Option Ending). VertexSettled d box s c.args.taken c.args.solved p y led after) (sym c.halted.ensures)
    (no_found_settles d box s c.args.taken c.args.solved p y c.in_ok-halt-in-Vertex.halt after not_found c.in_ok-halt-in-Vertex.ensures))
