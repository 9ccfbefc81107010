use Rattle.std.proofs.Common.{◌≡◌, Ok, rules, subst, sym}
use Rattle.um_words.specs.declared.job.Job.{Job}
use Rattle.um_words.specs.declared.job.Job.TheVariants.{Check, Solve, Print}
use Rattle.umpire.specs.Runs.{by_job}
use Rattle.umpire.proofs.top.perform.Goals as goal

pub returns-in-Check : goal.returns-in-Check
returns-in-Check g c =
    let is : c.args.job.now ≡ Check c.as_text.result.now c.as_text-in-Check.result.now = search rules in
    subst (λ (j : Job). by_job (Ok j) c.check.result (g.D.Desk.scene c.args.desk.now) (g.D.Desk.scene c.check.new.desk) (g.O.Sink.told c.args.out.now) (g.O.Sink.told c.check.new.out)) (sym is) c.check.ensures

pub returns-in-Solve : goal.returns-in-Solve
returns-in-Solve g c =
    let is : c.args.job.now ≡ Solve c.in-Solve.asked = search rules in
    subst (λ (j : Job). by_job (Ok j) c.solve.result (g.D.Desk.scene c.args.desk.now) (g.D.Desk.scene c.solve.new.desk) (g.O.Sink.told c.args.out.now) (g.O.Sink.told c.solve.new.out)) (sym is) c.solve.ensures

pub returns-in-Print : goal.returns-in-Print
returns-in-Print g c =
    let is : c.args.job.now ≡ Print c.as_text-in-Print.result.now = search rules in
    subst (λ (j : Job). by_job (Ok j) c.print.result (g.D.Desk.scene c.args.desk.now) (g.D.Desk.scene c.print.new.desk) (g.O.Sink.told c.args.out.now) (g.O.Sink.told c.print.new.out)) (sym is) c.print.ensures
