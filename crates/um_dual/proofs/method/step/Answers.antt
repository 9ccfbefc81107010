use Rattle.std.proofs.Common.{subst}
use Rattle.um_lp.specs.DualSteps.{IsNext}
use Rattle.um_dual.specs.Methods.{next_of}
use Rattle.um_dual.specs.declared.method.Choice.{Choice}
use Rattle.um_dual.proofs.Feasible.{step_feasible, next_not_zero}
use Rattle.um_dual.proofs.method.step.Goals as goal

pub pivot-requires-clause-not_zero : goal.pivot-requires-clause-not_zero
pivot-requires-clause-not_zero g c =
    let s = g.B.Board.state c.args.board.now in
    next_not_zero s c.in-Ok-Pivot.row c.in-Ok-Pivot.column c.in-Ok-Pivot.to
    (subst (λ (choice : Choice). IsNext s (next_of choice)) c.in-Ok-Pivot.field-0-is c.in-Ok-Pivot.ensures.next)

pub returns-in-Ok-clause-feasible : goal.returns-in-Ok-clause-feasible
returns-in-Ok-clause-feasible g c =
    let s = g.B.Board.state c.args.board.now in
    step_feasible s (g.B.Board.state c.pivot.new.self) c.in-Ok-Pivot.row c.in-Ok-Pivot.column c.in-Ok-Pivot.to (g.met.B.Board.belongs c.args.board.now) c.requires
    (subst (λ (choice : Choice). IsNext s (next_of choice)) c.in-Ok-Pivot.field-0-is c.in-Ok-Pivot.ensures.next) c.in-Ok.ensures.ok
