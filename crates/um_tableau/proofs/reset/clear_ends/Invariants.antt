use Rattle.std.proofs.Common.{◌≡◌, ℕ, ◌<◌, Some, None}
use Rattle.std.specs.Prelude.{pos, slice_index_or}
use Rattle.um_tableau.proofs.reset.clear_ends.Given as goal

-- the columns so far have ends of 0
abbrev pub invariant-loop-j : goal.invariant-loop-j
invariant-loop-j l = (k : ℕ) → k < l.j → slice_index_or l.ends k (None, None) ≡ (Some (pos 0), Some (pos 0))
