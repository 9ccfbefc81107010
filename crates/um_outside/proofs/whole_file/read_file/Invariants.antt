use Rattle.std.proofs.Common.{◌≡◌, ◌-◌, ◌≤◌, length, false}
use Rattle.um_outside.proofs.ReadPieces.{ReadSoFar}
use Rattle.um_outside.proofs.whole_file.read_file.Given as goal

abbrev pub invariant-pieces : goal.invariant-pieces
invariant-pieces g l = record {
  so_far : ReadSoFar l.name l.bytes.items (g.D.Desk.scene l.fn.desk) (g.D.Desk.scene l.desk);
  stopped : (g.D.Desk.scene l.desk).stopped ≡ false;
  size : length l.bytes.items ≤ l.most;
}

abbrev pub decreases-pieces : goal.decreases-pieces
decreases-pieces g l = l.most - length l.bytes.items
