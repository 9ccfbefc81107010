use Rattle.std.proofs.Common.{◌≡◌, ℕ, ◌+◌}
use Rattle.std.specs.Prelude.{◌*ℤ◌, ◌≤ℤ◌}
use Rattle.um_split.specs.LastReached.{weight_at}
use Rattle.um_split.proofs.averages.Average.last_reached.Given as goal

abbrev pub invariant-loop-position : goal.invariant-loop-position
invariant-loop-position l = (k : ℕ) → k + 1 ≡ l.position → (weight_at l.members k *ℤ l.self.total) ≤ℤ l.self.weighted
