use Rattle.std.proofs.Common.{ℕ, List, subst, sym}
use Rattle.umpire.specs.PrintRuns.{HasPrinted}
use Rattle.umpire.proofs.PrintCalls.{text_ran, print_gave_up}
use Rattle.umpire.proofs.commands.print.print.Goals as goal

pub returns-in-Ok : goal.returns-in-Ok
returns-in-Ok g c =
    text_ran c.args.deck.now (g.D.Desk.scene c.args.desk.now) (g.D.Desk.scene c.text_of.new.desk) (g.O.Sink.told c.args.out.now) (g.O.Sink.told c.say.new.out) c.as_slice.result.now c.say.result
    (subst (λ (text : List ℕ). HasPrinted c.args.deck.now text (g.D.Desk.scene c.args.desk.now) (g.D.Desk.scene c.text_of.new.desk)) (sym c.as_slice.ensures) c.in-Ok.ensures.ok) c.say.ensures

pub returns-in-Err : goal.returns-in-Err
returns-in-Err g c =
    print_gave_up c.args.deck.now (g.D.Desk.scene c.args.desk.now) (g.D.Desk.scene c.text_of.new.desk) (g.O.Sink.told c.args.out.now) (g.O.Sink.told c.give_up.new.out) c.in-Err.stop c.give_up.result c.in-Err.ensures.err c.give_up.ensures
