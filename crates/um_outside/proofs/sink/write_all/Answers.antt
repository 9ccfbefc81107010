use Rattle.std.proofs.Common.{arith, ◌≡◌, ◌-◌, take, drop, length, length-drop}
use Rattle.std.proofs.lemmas.Grind.{common_steps}
use Rattle.um_outside.specs.Sinks.{TookFirst}
use Rattle.um_outside.proofs.SinkPieces.{took_more}
use Rattle.um_outside.proofs.sink.write_all.Goals as goal

pub pieces-preserved : goal.pieces-preserved
pieces-preserved g c =
    let b = c.args.bytes.now in
    let at = c.pieces.at in
    let n = c.in_ok-at.field-0 in
    let rest : take (length b - at) (drop at b) ≡ drop at b = grind (arith, common_steps) in
    let w : TookFirst (drop at b) n (g.O.Sink.told c.pieces.out) (g.O.Sink.told c.write.new.self) = rw rest at c.in_ok-at.ensures in
    record { within = omega (arith, length-drop at b, w.within); took = took_more b at n _ _ _ c.pieces.invariant.took w }
