use Rattle.std.proofs.Common.{◌≡◌}
use Rattle.um_multipliers.specs.PlainMultipliers.{plain_multipliers}
use Rattle.um_model.specs.LeafValue.{Empties}
use Rattle.um_model.specs.Accepted.{First, by_node}
use Rattle.um_model.specs.declared.verdict.Reason.TheVariants as reason
use Rattle.um_model.specs.declared.verdict.Verdict.TheVariants.{Yes}
use Rattle.um_check.proofs.LeafSteps.{not_usable}
use Rattle.um_check.proofs.leaf.on_empty.Goals as goal

pub returns-in-Err-clause-leaf : goal.returns-in-Err-clause-leaf
returns-in-Err-clause-leaf c = λ a place.
    not_usable c.args.node.now.deck c.args.node.now.limits (plain_multipliers c.args.y.now) c.in-Err.reason place
    (First (Empties c.args.node.now.deck c.args.node.now.limits (plain_multipliers c.args.y.now)) (by_node place reason.NotEmpty) (λ v. v ≡ Yes)) c.in-Err.ensures.err
