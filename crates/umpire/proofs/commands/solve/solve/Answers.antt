use Rattle.std.proofs.Common.{subst}
use Rattle.um_search.specs.declared.budget.Budget.{Budget}
use Rattle.umpire.specs.SolveRuns.{SearchRan}
use Rattle.umpire.proofs.SolveCalls.{answer_ran, solve_gave_up}
use Rattle.umpire.proofs.commands.solve.solve.Goals as goal

pub returns-in-Ok : goal.returns-in-Ok
returns-in-Ok g c =
    let before = g.D.Desk.scene c.args.desk.now in
    let after = g.D.Desk.scene c.find.new.desk in
    let s = g.O.Sink.told c.args.out.now in
    let t = g.O.Sink.told c.hand_out.new.out in
    subst (λ (b : Budget). SearchRan c.args.asked.now b c.hand_out.result before after s t) c.budget_of.ensures.is
    (answer_ran c.args.asked.now c.budget_of.result before after s t c.in-Ok.found.answer c.in-Ok.found.report.items c.hand_out.result c.in-Ok.ensures.ok c.hand_out.ensures)

pub returns-in-Err : goal.returns-in-Err
returns-in-Err g c =
    let before = g.D.Desk.scene c.args.desk.now in
    let after = g.D.Desk.scene c.find.new.desk in
    let s = g.O.Sink.told c.args.out.now in
    let t = g.O.Sink.told c.give_up.new.out in
    subst (λ (b : Budget). SearchRan c.args.asked.now b c.give_up.result before after s t) c.budget_of.ensures.is
    (solve_gave_up c.args.asked.now c.budget_of.result before after s t c.in-Err.stop c.give_up.result c.in-Err.ensures.err c.give_up.ensures)
