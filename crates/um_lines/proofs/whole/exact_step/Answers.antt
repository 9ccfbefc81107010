use Rattle.um_lines.proofs.Shorts.{step_taken}
use Rattle.std.proofs.lemmas.Int.{to_z-of_z}
use Rattle.um_lines.proofs.Wholes.{step_value}
use Rattle.um_num.proofs.Refusals.{step_refused}
use Rattle.um_lines.proofs.whole.exact_step.Goals as goal

pub returns-clause-value : goal.returns-clause-value
returns-clause-value c =
    let f1 = c.ranges.left in
    let f2 = c.ranges.right in
    step_value c.args.op c.args.left c.args.right c.step.result (simp to_z-of_z at c.step.ensures.value)

pub returns-clause-wide : goal.returns-clause-wide
returns-clause-wide c =
    let f1 = c.ranges.left in
    let f2 = c.ranges.right in
    step_refused c.args.op c.args.left c.args.right c.step.result (simp to_z-of_z at c.step.ensures.value) c.requires.left c.requires.right

pub returns-clause-taken : goal.returns-clause-taken
returns-clause-taken c h =
    let f1 = c.ranges.left in
    let f2 = c.ranges.right in
    step_taken c.args.op c.args.left c.args.right c.step.result (simp to_z-of_z at c.step.ensures.value) h
