use Rattle.std.proofs.Common.{◌≡◌, refl, inr}
use Rattle.std.proofs.lemmas.Bool.{false≢true}
use Rattle.um_multipliers.specs.PlainMultipliers.{plain_multipliers}
use Rattle.um_model.specs.AnswerValues.{plain_answer}
use Rattle.um_model.specs.Accepted.{First, BoundedHolds, by_node}
use Rattle.um_model.specs.declared.verdict.Reason.TheVariants as reason
use Rattle.um_model.specs.declared.verdict.Verdict.TheVariants.{Yes}
use Rattle.um_check.proofs.LeafSteps.{usable}
use Rattle.um_check.proofs.leaf.on_value.Goals as goal

pub returns-then-not-is_closed-clause-leaf : goal.returns-then-not-is_closed-clause-leaf
returns-then-not-is_closed-clause-leaf c = λ place.
    usable c.args.node.now.deck c.args.node.now.limits (plain_multipliers c.args.y.now) c.args.value place
    (First (BoundedHolds c.args.node.now.deck (plain_answer c.args.answer.now) c.args.node.now.limits (plain_multipliers c.args.y.now)) (by_node place reason.Bound) (λ v. v ≡ Yes)) (by_node place reason.Bound)
    c.requires.value (inr ((λ h. false≢true (c.if-not-is_closed.ensures.1 h)), refl))
