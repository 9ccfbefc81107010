use Rattle.std.proofs.Common.{arith, ◌≡◌, ◌-◌, ◌≤◌, ◌∙◌, take, drop, length, length-drop}
use Rattle.std.proofs.lemmas.Grind.{common_steps}
use Rattle.um_outside.specs.Desks.{FileTook}
use Rattle.um_outside.proofs.WritePieces.{written_more}
use Rattle.um_outside.proofs.whole_file.write_file.Goals as goal

pub pieces-preserved : goal.pieces-preserved
pieces-preserved g c =
    let b = c.args.bytes.now in
    let at = c.pieces.at in
    let n = c.in_ok-at.field-0 in
    let rest : take (length b - at) (drop at b) ≡ drop at b = grind (arith, common_steps) in
    let within : n ≤ length (drop at b) = rw rest at c.in_ok-at.ensures.1 in
    let took : FileTook (take n (drop at b)) (g.D.Desk.scene c.pieces.desk) (g.D.Desk.scene c.write.new.self) = rw rest at c.in_ok-at.ensures.2 in
    record {
      so_far = written_more c.args.name.now b at n _ _ _ c.pieces.invariant.so_far took;
      stopped = took.well.stopped ∙ c.pieces.invariant.stopped;
      within = omega (arith, length-drop at b, within);
    }
