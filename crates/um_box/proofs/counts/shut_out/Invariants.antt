use Rattle.std.proofs.Common.{◌≡◌, ℕ, ◌+◌, ◌<◌, length, take, slice_index}
use Rattle.um_box.specs.ShutOut.{times_in}
use Rattle.um_box.proofs.counts.shut_out.Given as goal

abbrev pub invariant-loop-member : goal.invariant-loop-member
invariant-loop-member l = record {
  each : length l.counts.items ≡ length l.fn.counts.items;
  counted : (column : ℕ) → column < length l.fn.counts.items → slice_index l.counts.items column ≡ slice_index l.fn.counts.items column + times_in (take l.member-index l.members) column;
}
