use Rattle.std.proofs.Common.{arith}
use Rattle.um_model.specs.declared.deck.SetKind.TheVariants.{S1, S2}
use Rattle.um_point.specs.MemberParts.{parts_of}
use Rattle.um_point.proofs.SetRules.{rule_test, same_length}
use Rattle.um_point.proofs.sets.rule_holds.Goals as goal

pub returns-in-S1 : goal.returns-in-S1
returns-in-S1 c =
    let long = same_length c.args.parts.now c.args.members.now in
    rw c.in-S1.is (rule_test (parts_of c.args.parts.now c.args.members.now) c.leading_zeros-first.result c.leading_zeros-first.ensures.before (λ l. c.leading_zeros-first.ensures.nonzero (omega (arith, l, long))) S1 c.is_zero_from.result c.is_zero_from.ensures)

pub returns-in-S2 : goal.returns-in-S2
returns-in-S2 c =
    let long = same_length c.args.parts.now c.args.members.now in
    rw c.in-S2.is (rule_test (parts_of c.args.parts.now c.args.members.now) c.leading_zeros-first.result c.leading_zeros-first.ensures.before (λ l. c.leading_zeros-first.ensures.nonzero (omega (arith, l, long))) S2 c.is_zero_from-in-S2.result c.is_zero_from-in-S2.ensures)
