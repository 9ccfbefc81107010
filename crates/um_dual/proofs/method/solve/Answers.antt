use Rattle.std.proofs.Common.{subst, arith, ◌-◌, ◌<◌, ◌^◌}
use Rattle.um_lp.specs.DualSteps.{IsNext}
use Rattle.um_lp.specs.States.{width}
use Rattle.um_dual.specs.Used.{is_used, count_below}
use Rattle.um_dual.proofs.CountingUsed.{few_used_steps}
use Rattle.um_dual.specs.Methods.{next_of}
use Rattle.um_dual.specs.declared.method.Choice.{Choice}
use Rattle.um_dual.proofs.Feasible.{step_feasible, next_not_zero, more_steps}
use Rattle.um_dual.proofs.method.solve.Goals as goal

pub pivot-requires-clause-not_zero : goal.pivot-requires-clause-not_zero
pivot-requires-clause-not_zero g c =
    let s = g.B.Board.state c.steps.board in
    next_not_zero s c.in-Ok-Pivot.row c.in-Ok-Pivot.column c.in-Ok-Pivot.to
    (subst (λ (choice : Choice). IsNext s (next_of choice)) c.in-Ok-Pivot.field-0-is c.in-Ok-Pivot.ensures.next)

pub steps-preserved : goal.steps-preserved
steps-preserved g c =
    let s = g.B.Board.state c.steps.board in
    let t = g.B.Board.state c.pivot.new.self in
    let next = subst (λ (choice : Choice). IsNext s (next_of choice)) c.in-Ok-Pivot.field-0-is c.in-Ok-Pivot.ensures.next in
    let pivot = c.in-Ok.ensures.ok in
    record {
      falls = omega arith;
      steps =
          more_steps c.args.left.now c.steps.left (g.B.Board.state c.args.board.now) s t c.steps.invariant.falls c.if-left-eq0.false c.steps.invariant.steps
          (record { row = c.in-Ok-Pivot.row; column = c.in-Ok-Pivot.column; to = c.in-Ok-Pivot.to; next = next; pivot = pivot });
      feasible = step_feasible s t c.in-Ok-Pivot.row c.in-Ok-Pivot.column c.in-Ok-Pivot.to (g.met.B.Board.belongs c.steps.board) c.steps.invariant.feasible next pivot;
      keeps = g.met.B.Board.keeps_trans c.args.board.now c.steps.board c.pivot.new.self c.steps.invariant.keeps c.pivot.ensures.keeps;
    }

-- a run has fewer steps than there are ways to stand, so that with so many left one is left
pub returns-then-left-eq0-clause-enough : goal.returns-then-left-eq0-clause-enough
returns-then-left-eq0-clause-enough g c enough same =
    let s = g.B.Board.state c.args.board.now in
    let t = g.B.Board.state c.steps.board in
    let few : c.args.left.now - c.steps.left < 3 ^ count_below (width s.frame) (is_used s) = few_used_steps (c.args.left.now - c.steps.left) s t c.steps.invariant.steps (g.met.B.Board.belongs c.args.board.now) c.requires in
    let none = c.if-left-eq0.true in
    omega arith
