use Rattle.umpire.proofs.CheckCalls.{verdict_ran, check_gave_up}
use Rattle.umpire.proofs.commands.check.check.Goals as goal

pub returns-in-Ok : goal.returns-in-Ok
returns-in-Ok g c =
    verdict_ran (record { deck = c.args.deck_name.now; tree = c.args.tree_name.now }) (g.D.Desk.scene c.args.desk.now) (g.D.Desk.scene c.judge.new.desk) (g.O.Sink.told c.args.out.now) (g.O.Sink.told c.tell.new.out) c.in-Ok.verdict c.tell.result c.in-Ok.ensures.ok c.tell.ensures

pub returns-in-Err : goal.returns-in-Err
returns-in-Err g c =
    check_gave_up (record { deck = c.args.deck_name.now; tree = c.args.tree_name.now }) (g.D.Desk.scene c.args.desk.now) (g.D.Desk.scene c.judge.new.desk) (g.O.Sink.told c.args.out.now) (g.O.Sink.told c.give_up.new.out) c.in-Err.stop c.give_up.result c.in-Err.ensures.err c.give_up.ensures
