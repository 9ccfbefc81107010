use Rattle.std.proofs.Common.{◌∙◌, ◌∷◌, [], Some, None, List, refl, sym, subst}
use Rattle.std.specs.Prelude.{All}
use Rattle.std.proofs.lemmas.Bool.{false≢true}
use Rattle.um_model.specs.Values.{DeckValue}
use Rattle.um_model.specs.Boxes.{root}
use Rattle.um_model.specs.Accepted.{NodesVerdict}
use Rattle.um_model.specs.AnswerValues.{plain_answer, plain_what}
use Rattle.um_model.specs.Checkable.{IsCheckableWhat}
use Rattle.um_model.specs.declared.tree.Node.{Node}
use Rattle.um_check.specs.Judging.{BeforeTree, FromBound}
use Rattle.um_check.proofs.NodeSteps.{passes}
use Rattle.um_check.proofs.Tolerances.{tolerance_is}
use Rattle.um_check.proofs.Verdicts.{before_stops, ray_decides, tree_decides, nodes_checkable}
use Rattle.um_check.proofs.checker.Checker.verdict.Goals as goal

pub returns-in-Some-clause-verdict : goal.returns-in-Some-clause-verdict
returns-in-Some-clause-verdict c =
    let a = plain_answer c.args.answer.now in
    let here : BeforeTree c.args.self.now a (Some c.in-Some.reason) = subst (λ (d : DeckValue). BeforeTree d a (Some c.in-Some.reason)) (c.deck.ensures ∙ c.self.view_is) c.in-Some.ensures in
    before_stops c.args.self.now a c.in-Some.reason here

pub returns-then-not-has_tree-clause-verdict : goal.returns-then-not-has_tree-clause-verdict
returns-then-not-has_tree-clause-verdict c =
    let a = plain_answer c.args.answer.now in
    let before : BeforeTree c.args.self.now a None = subst (λ (d : DeckValue). BeforeTree d a None) (c.deck.ensures ∙ c.self.view_is) c.in_default.ensures in
    ray_decides c.args.self.now a before (λ other. false≢true (c.if-not-has_tree.ensures.1 other))

pub on_nodes-verdict-requires-clause-checkable : goal.on_nodes-verdict-requires-clause-checkable
on_nodes-verdict-requires-clause-checkable c =
    let each : All (λ (n : Node). IsCheckableWhat c.args.self.now (plain_what n.what)) c.args.answer.now.tree = nodes_checkable c.args.self.now c.args.answer.now.tree c.requires.checkable.nodes in
    let here = subst (λ (d : DeckValue). All (λ (n : Node). IsCheckableWhat d (plain_what n.what)) c.args.answer.now.tree) (sym c.self.view_is) each in
    subst (λ (ns : List Node). All (λ (n : Node). IsCheckableWhat c.self.inside.walk.deck (plain_what n.what)) ns) (sym c.nodes.ensures) here

pub returns-clause-verdict : goal.returns-clause-verdict
returns-clause-verdict c =
    let a = plain_answer c.args.answer.now in
    let before : BeforeTree c.args.self.now a None = subst (λ (d : DeckValue). BeforeTree d a None) (c.deck.ensures ∙ c.self.view_is) c.in_default.ensures in
    let nodes : NodesVerdict c.args.self.now a (root c.args.self.now ∷ []) 0 a.tree (FromBound c.args.self.now a) c.on_nodes-verdict.result =
    subst (λ (d : DeckValue). NodesVerdict d a (root d ∷ []) 0 a.tree (FromBound d a) c.on_nodes-verdict.result) c.self.view_is c.on_nodes-verdict.ensures.verdict in
    tree_decides c.args.self.now a c.on_nodes-verdict.result before (c.if-not-has_tree.ensures.0 refl) nodes

pub on_nodes-verdict-requires-clause-tolerance : goal.on_nodes-verdict-requires-clause-tolerance
on_nodes-verdict-requires-clause-tolerance c =
    let a = plain_answer c.args.answer.now in
    let before : BeforeTree c.args.self.now a None = subst (λ (d : DeckValue). BeforeTree d a None) (c.deck.ensures ∙ c.self.view_is) c.in_default.ensures in
    tolerance_is c.args.self.now a.tolerance (passes before).0
