use Rattle.std.proofs.Common.{ℕ, ◌<◌, ◌≢◌, get_or}
use Rattle.um_relax.proofs.key_rows.is_listed.Given as goal

abbrev pub invariant-loop-key : goal.invariant-loop-key
invariant-loop-key l = (k : ℕ) (d : ℕ) → k < l.key-index → get_or l.keys k d ≢ l.row
