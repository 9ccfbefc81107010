use Rattle.std.proofs.Common.{◌≡◌, ◌++◌, take}
use Rattle.um_text.proofs.text.Text.put.Given as goal

abbrev pub invariant-loop-byte : goal.invariant-loop-byte
invariant-loop-byte l = l.self-inside.bytes.items ≡ l.fn.self ++ take l.byte-index l.bytes
