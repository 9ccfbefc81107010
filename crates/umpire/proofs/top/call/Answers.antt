use Rattle.std.proofs.Common.{map, string_bytes}
use Rattle.umpire.proofs.Calls.{fault_ran, job_ran}
use Rattle.umpire.proofs.top.call.Goals as goal

pub returns-in-Ok : goal.returns-in-Ok
returns-in-Ok g c =
    job_ran (map string_bytes c.args.words.now) c.perform.result (g.D.Desk.scene c.args.desk.now) (g.D.Desk.scene c.perform.new.desk) (g.O.Sink.told c.args.out.now) (g.O.Sink.told c.perform.new.out) c.in-Ok.job c.in-Ok.ensures.said c.perform.ensures

pub returns-in-Err : goal.returns-in-Err
returns-in-Err g c =
    fault_ran (map string_bytes c.args.words.now) c.in-Err.fault c.words_stop.result c.give_up.result (g.D.Desk.scene c.args.desk.now) (g.O.Sink.told c.args.out.now) (g.O.Sink.told c.give_up.new.out) c.in-Err.ensures.said c.words_stop.ensures c.give_up.ensures
