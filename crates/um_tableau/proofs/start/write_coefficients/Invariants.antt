use Rattle.std.proofs.Common.{◌≡◌, ℕ, ◌<◌, ◌≤◌, pos}
use Rattle.std.specs.Prelude.{slice_index_or}
use Rattle.um_lp.specs.States.{coefficient, no_data}
use Rattle.um_lines.specs.Lines.{whole_at, AreInRange}
use Rattle.um_tableau.proofs.start.write_coefficients.Given as goal

-- the columns so far are written, and all others are 0
abbrev pub invariant-loop-j : goal.invariant-loop-j
invariant-loop-j l = record {
  range : AreInRange l.nums;
  written : (k : ℕ) → k < l.j → whole_at l.nums k ≡ coefficient (slice_index_or l.given.columns k no_data).terms l.row;
  left : (k : ℕ) → l.j ≤ k → whole_at l.nums k ≡ pos 0;
}
