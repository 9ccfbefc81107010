use Rattle.std.proofs.Common.{rules, ◌≡◌, ℕ, ◌+◌, ◌<◌, ◌≤◌, ◌∙◌, length, map, drop, get_or, Ok, Err, sym, subst, ap, arith}
use Rattle.std.proofs.lemmas.Bool.{false≢true}
use Rattle.um_model.specs.Accepted.{by_node}
use Rattle.um_model.specs.AnswerValues.{plain_answer, plain_node, plain_what}
use Rattle.um_model.specs.Values.{DeckValue}
use Rattle.um_model.specs.declared.verdict.Reason.TheVariants as reason
use Rattle.um_check.specs.declared.bound.LeastBound.{LeastBound}
use Rattle.um_check.specs.Judging.{IsVisited}
use Rattle.um_check.proofs.NodeSteps.{IsGoing, going_here, going_nowhere, going_on, going_stops, one_too_many, one_missing, all_done, no_boxes}
use Rattle.um_check.proofs.nodes.on_nodes.Goals as goal

pub returns-then-not-waits-clause-verdict : goal.returns-then-not-waits-clause-verdict
returns-then-not-waits-clause-verdict c =
    let d = c.args.walk.now.deck in
    let a = plain_answer c.args.answer.now in
    let boxes = c.loop-place.walk.boxes in
    let n = c.index-nodes-place.result in
    let inside : c.loop-place.place < length c.args.nodes.now = search rules in
    let at : get_or c.args.nodes.now c.loop-place.place n ≡ n = search rules in
    let rest = map plain_node (drop (c.loop-place.place + 1) c.args.nodes.now) in
    let going = going_here d a boxes c.args.nodes.now c.loop-place.place n c.loop-place.least inside at c.loop-place.invariant.going in
    let none = no_boxes boxes (λ some. false≢true (sym c.if-not-waits.true ∙ c.waits.ensures.1 some)) in
    one_too_many d a boxes c.loop-place.place (plain_node n) rest c.loop-place.least c.no_at.result going none c.no_at.ensures

pub returns-in-Err-clause-verdict : goal.returns-in-Err-clause-verdict
returns-in-Err-clause-verdict c =
    let d = c.args.walk.now.deck in
    let a = plain_answer c.args.answer.now in
    let boxes = c.loop-place.walk.boxes in
    let after = c.visit.new.walk.boxes in
    let n = c.index-nodes-place.result in
    let inside : c.loop-place.place < length c.args.nodes.now = search rules in
    let at : get_or c.args.nodes.now c.loop-place.place n ≡ n = search rules in
    let rest = map plain_node (drop (c.loop-place.place + 1) c.args.nodes.now) in
    let going = going_here d a boxes c.args.nodes.now c.loop-place.place n c.loop-place.least inside at c.loop-place.invariant.going in
    let visited = subst (λ (e : DeckValue). IsVisited e a (plain_what n.what) boxes after (Err c.in-Err.reason)) c.loop-place.invariant.deck c.in-Err.ensures.visited in
    going_stops d a boxes after c.loop-place.place (plain_node n) rest c.loop-place.least c.in-Err.reason c.no_at-in-Err.result going visited c.no_at-in-Err.ensures

pub loop-place-preserved : goal.loop-place-preserved
loop-place-preserved c =
    let d = c.args.walk.now.deck in
    let a = plain_answer c.args.answer.now in
    let boxes = c.loop-place.walk.boxes in
    let after = c.visit.new.walk.boxes in
    let n = c.index-nodes-place.result in
    let inside : c.loop-place.place < length c.args.nodes.now = search rules in
    let at : get_or c.args.nodes.now c.loop-place.place n ≡ n = search rules in
    let rest = map plain_node (drop (c.loop-place.place + 1) c.args.nodes.now) in
    let going = going_here d a boxes c.args.nodes.now c.loop-place.place n c.loop-place.least inside at c.loop-place.invariant.going in
    let visited = subst (λ (e : DeckValue). IsVisited e a (plain_what n.what) boxes after (Ok c.in-Ok.bound)) c.loop-place.invariant.deck c.in-Ok.ensures.visited in
    let depth = c.loop-place.invariant.depth in
    let deeper = c.visit.ensures.depth in
    record {
      going =
          subst (λ (l : LeastBound). IsGoing d a after (c.loop-place.place + 1) rest l) (sym c.join-least.ensures)
          (going_on d a boxes after c.loop-place.place (plain_node n) rest c.loop-place.least c.in-Ok.bound going visited);
      deck = c.visit.ensures.deck ∙ c.loop-place.invariant.deck;
      depth = omega (arith, depth, deeper);
    }

pub returns-then-waits-clause-verdict : goal.returns-then-waits-clause-verdict
returns-then-waits-clause-verdict c =
    let d = c.args.walk.now.deck in
    let a = plain_answer c.args.answer.now in
    let end : length c.args.nodes.now ≤ c.loop-place.place = search rules in
    let last : length c.args.nodes.now ≡ c.loop-place.place = search rules in
    let going = going_nowhere d a c.loop-place.walk.boxes c.args.nodes.now c.loop-place.place c.loop-place.least end c.loop-place.invariant.going in
    one_missing d a c.loop-place.walk.boxes c.loop-place.place c.loop-place.least c.no_at-then-waits.result going (c.waits-2.ensures.0 c.if-waits.true) (c.no_at-then-waits.ensures ∙ ap (λ (k : ℕ). by_node k reason.Shape) last)

pub returns-clause-verdict : goal.returns-clause-verdict
returns-clause-verdict c =
    let d = c.args.walk.now.deck in
    let a = plain_answer c.args.answer.now in
    let end : length c.args.nodes.now ≤ c.loop-place.place = search rules in
    let going = going_nowhere d a c.loop-place.walk.boxes c.args.nodes.now c.loop-place.place c.loop-place.least end c.loop-place.invariant.going in
    let none = no_boxes c.loop-place.walk.boxes (λ some. false≢true (sym c.if-waits.false ∙ c.waits-2.ensures.1 some)) in
    all_done d a c.loop-place.walk.boxes c.loop-place.place c.loop-place.least c.on_bound.result going none c.on_bound.ensures
