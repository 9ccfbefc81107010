use Rattle.std.proofs.Common.{◌≤◌, ◌-◌, length, take}
use Rattle.um_outside.specs.Sinks.{Took}
use Rattle.um_outside.proofs.sink.write_all.Given as goal

abbrev pub invariant-pieces : goal.invariant-pieces
invariant-pieces g l = record {
  within : l.at ≤ length l.bytes;
  took : Took (take l.at l.bytes) (g.O.Sink.told l.fn.out) (g.O.Sink.told l.out);
}

abbrev pub decreases-pieces : goal.decreases-pieces
decreases-pieces g l = length l.bytes - l.at
