use Rattle.um_model.specs.Values.{plain_point}
use Rattle.um_model.specs.AnswerValues.{plain_answer}
use Rattle.std.proofs.Common.{rules, ◌∙◌, sym, ap, option_map, pos, ◌≤ℤ◌}
use Rattle.um_check.proofs.Objectives.{objective_test}
use Rattle.um_check.proofs.point.has_objective.Goals as goal

pub returns-in-Some-Some : goal.returns-in-Some-Some
returns-in-Some-Some c =
    let positive : pos 1 ≤ℤ c.in-Some-Some.point.den = search rules in
    let test = objective_test c.args.deck.now (plain_answer c.args.answer.now) (plain_point c.in-Some-Some.point) c.in-Some-Some.stated (ap (option_map plain_point) c.in-Some-Some.is-0) c.in-Some-Some.is-1 positive in
    (λ same. test.1 (sym c.objective.ensures ∙ c.is_same.ensures.0 same), λ h. c.is_same.ensures.1 (c.objective.ensures ∙ test.0 h))
