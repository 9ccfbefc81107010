use Rattle.std.proofs.Common.{◌≡◌, ◌-◌, ◌≤◌, length, take, false}
use Rattle.um_outside.proofs.WritePieces.{WrittenSoFar}
use Rattle.um_outside.proofs.whole_file.write_file.Given as goal

abbrev pub invariant-pieces : goal.invariant-pieces
invariant-pieces g l = record {
  so_far : WrittenSoFar l.name (take l.at l.bytes) (g.D.Desk.scene l.fn.desk) (g.D.Desk.scene l.desk);
  stopped : (g.D.Desk.scene l.desk).stopped ≡ false;
  within : l.at ≤ length l.bytes;
}

abbrev pub decreases-pieces : goal.decreases-pieces
decreases-pieces g l = length l.bytes - l.at
