use Rattle.std.proofs.Common.{rules, pos, ◌<ℤ◌, FitsSigned, subst}
use Rattle.std.specs.Int.{w64, w128}
use Rattle.std.specs.Prelude.{IsTrue, IsSome, ◌↔◌}
use Rattle.std.proofs.lemmas.Int.{to_z-of_z}
use Rattle.um_multipliers.specs.PlainMultipliers.{plain_multipliers}
use Rattle.um_model.specs.Values.{DeckValue}
use Rattle.um_model.specs.AnswerValues.{plain_answer}
use Rattle.um_model.specs.LeafValue.{Reaches}
use Rattle.um_check.proofs.LeafSteps.{closes_test}
use Rattle.um_check.proofs.leaf.is_closed.Goals as goal

pub returns-then-is_objective_in : goal.returns-then-is_objective_in
returns-then-is_objective_in c =
    let there : IsSome (plain_answer c.args.answer.now).point = search rules in
    let y0 : pos 0 <ℤ c.args.y.now.y0 = search rules in
    let fits : FitsSigned w128 c.args.value = search rules in
    let y0_fits : FitsSigned w128 c.args.y.now.y0 = search rules in
    let tolerance_fits : FitsSigned w64 c.args.answer.now.tolerance = search rules in
    let test = closes_test c.args.node.now.deck (plain_answer c.args.answer.now) c.args.node.now.limits (plain_multipliers c.args.y.now) c.args.value c.in-Some-Some.objective there c.in-Some-Some.is-1 y0 c.requires.value in
    let here : IsTrue c.closes.result ↔ Reaches c.deck.result.now c.args.y.now.y0 c.args.value c.in-Some-Some.objective c.args.answer.now.tolerance = simp to_z-of_z at c.closes.ensures in
    let same : IsTrue c.closes.result ↔ Reaches c.args.node.now.deck c.args.y.now.y0 c.args.value c.in-Some-Some.objective c.args.answer.now.tolerance =
    subst (λ (d : DeckValue). IsTrue c.closes.result ↔ Reaches d c.args.y.now.y0 c.args.value c.in-Some-Some.objective c.args.answer.now.tolerance) c.deck.ensures here in
    (λ h. test.0 (same.0 h), λ h. same.1 (test.1 h))
