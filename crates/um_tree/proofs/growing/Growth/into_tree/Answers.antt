use Rattle.std.proofs.Common.{ℕ, [], ◌∷◌, ◌++◌, List, map, Option, Some, Err, ap, ◌∙◌, subst, sym, arith}
use Rattle.um_model.specs.AnswerValues.{NodeValue, plain_node}
use Rattle.um_tree.specs.Growths.{GrowthValue}
use Rattle.um_tree.proofs.Lists.{length_map, map_push}
use Rattle.um_tree.proofs.Telling.{IsTelling, start_telling, step_told, never_none, end_told}
use Rattle.um_tree.proofs.growing.Growth.into_tree.Goals as goal

pub loop-place-init : goal.loop-place-init
loop-place-init c =
    let nodes = map plain_node c.self.inside.nodes.items in
    let g : GrowthValue = record { origins = c.self.inside.origins.items; nodes = nodes } in
    let started = start_telling g c.self.inside.nexts.items c.self.invariant in
    let linked = subst (λ (links : List (Option ℕ)). IsTelling g links nodes [] (Some 0) 0) (sym c.as_slice-nexts.ensures) started in
    rw c.new-tree.ensures (subst (λ (x : GrowthValue). IsTelling x c.as_slice-nexts.result.now nodes [] (Some 0) 0) c.self.view_is linked)

pub unreachable-requires : goal.unreachable-requires
unreachable-requires c = never_none _ _ _ _ _ _ c.loop-place-test.true c.in_default.is c.loop-place.invariant

pub take_node-node-requires : goal.take_node-node-requires
take_node-node-requires c =
    let here = (step_told _ _ _ _ _ _ _ c.loop-place-test.true c.in-Some.is c.loop-place.invariant).in_nodes in
    omega (arith, here, length_map plain_node c.loop-place.nodes.items)

pub bounds-nexts-id : goal.bounds-nexts-id
bounds-nexts-id c = (step_told _ _ _ _ _ _ _ c.loop-place-test.true c.in-Some.is c.loop-place.invariant).in_nexts

pub unreachable-requires-in-Err-Full : goal.unreachable-requires-in-Err-Full
unreachable-requires-in-Err-Full c =
    let room = (step_told _ _ _ _ _ _ _ c.loop-place-test.true c.in-Some.is c.loop-place.invariant).room in
    let full = c.push.ensures.full.0 (c.in-Err-Full.is ∙ ap Err c.in-Err-Full.field-0-is) in
    omega (arith, room, full, length_map plain_node c.loop-place.tree)

pub loop-place-preserved : goal.loop-place-preserved
loop-place-preserved c =
    (step_told _ _ _ _ _ _ _ c.loop-place-test.true c.in-Some.is c.loop-place.invariant).on (map plain_node c.take_node-node.new.nodes.items) (map plain_node c.push.new.self) c.take_node-node.ensures.left (ap (map plain_node) c.in-Ok.ensures.ok ∙ map_push plain_node c.loop-place.tree c.take_node-node.result ∙ ap (λ (x : NodeValue). map plain_node c.loop-place.tree ++ x ∷ []) c.take_node-node.ensures.node)

pub returns : goal.returns
returns c = end_told _ _ _ _ _ _ c.loop-place-test.false c.loop-place.invariant
