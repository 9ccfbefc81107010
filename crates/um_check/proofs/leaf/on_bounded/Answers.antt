use Rattle.std.proofs.Common.{◌≡◌}
use Rattle.um_multipliers.specs.PlainMultipliers.{plain_multipliers}
use Rattle.um_model.specs.AnswerValues.{plain_answer}
use Rattle.um_model.specs.Accepted.{First, BoundedHolds, by_node}
use Rattle.um_model.specs.declared.verdict.Reason.TheVariants as reason
use Rattle.um_model.specs.declared.verdict.Verdict.TheVariants.{Yes}
use Rattle.um_check.proofs.LeafSteps.{not_usable}
use Rattle.um_check.proofs.leaf.on_bounded.Goals as goal

pub returns-in-Err-clause-leaf : goal.returns-in-Err-clause-leaf
returns-in-Err-clause-leaf c = λ place.
    not_usable c.args.node.now.deck c.args.node.now.limits (plain_multipliers c.args.y.now) c.in-Err.reason place
    (First (BoundedHolds c.args.node.now.deck (plain_answer c.args.answer.now) c.args.node.now.limits (plain_multipliers c.args.y.now)) (by_node place reason.Bound) (λ v. v ≡ Yes)) c.in-Err.ensures.err
