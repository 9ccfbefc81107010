use Rattle.std.proofs.Common.{◌≡◌, ℕ, ◌+◌, ◌<◌, ◌≤◌}
use Rattle.std.specs.Prelude.{slice_index_or}
use Rattle.um_lp.specs.declared.board.At.TheVariants.{Zero, Basic}
use Rattle.um_tableau.proofs.start.mark_slacks.Given as goal

-- the slacks so far are basic, and all others stand as they did
abbrev pub invariant-loop-i : goal.invariant-loop-i
invariant-loop-i l = record {
  done : (k : ℕ) → k < l.i → slice_index_or l.at (l.first + k) Zero ≡ Basic;
  before : (j : ℕ) → j < l.first → slice_index_or l.at j Zero ≡ slice_index_or l.initial.at j Zero;
  behind : (j : ℕ) → l.first + l.i ≤ j → slice_index_or l.at j Zero ≡ slice_index_or l.initial.at j Zero;
}
