use Rattle.std.proofs.Common.{◌≡◌, replicate}
use Rattle.um_box.proofs.node_box.zeros.Given as goal

abbrev pub invariant-loop : goal.invariant-loop
invariant-loop l = l.counts.items ≡ replicate l.counter 0
