use Rattle.std.proofs.Common.{◌≡◌, ◌+◌, ◌++◌, take}
use Rattle.um_outside.proofs.append.append_reserved.Given as goal

abbrev pub invariant-loop-byte : goal.invariant-loop-byte
invariant-loop-byte l = record {
  items : l.bytes.items ≡ l.fn.bytes.items ++ take l.byte-index l.more;
  room : l.bytes.spare + l.byte-index ≡ l.fn.bytes.spare;
}
