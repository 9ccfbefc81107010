use Rattle.std.proofs.Common.{◌≡◌, ◌+◌, ◌≤◌, ◌++◌, length, take}
use Rattle.um_outside.proofs.whole_file.append.Given as goal

abbrev pub invariant-loop-byte : goal.invariant-loop-byte
invariant-loop-byte l = record {
  items : l.bytes.items ≡ l.fn.bytes.items ++ take l.byte-index l.more;
  room : length l.more ≤ l.bytes.spare + l.byte-index;
}
