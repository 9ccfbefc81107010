-- Pieces that a sink takes one after another.
use Rattle.std.proofs.Common.{ℕ, ◌+◌, List, take, drop, arith, ◌∙◌}
use Rattle.std.proofs.Math.Seq.{take-add}
use Rattle.um_outside.specs.Sinks.{SinkScene, Took, TookFirst}
use Rattle.um_outside.proofs.Pieces.{added_twice}

pub took_more : (bytes : List ℕ) (at n : ℕ) (s t u : SinkScene) → Took (take at bytes) s t → TookFirst (drop at bytes) n t u → Took (take (at + n) bytes) s u
took_more bytes at n s t u a b = record {
  held = rw (take-add at n bytes) (added_twice s.held t.held u.held (take at bytes) (take n (drop at bytes)) a.held b.took.held);
  faults = omega (arith, a.faults, b.took.faults);
  stopped = b.took.stopped ∙ a.stopped;
}
