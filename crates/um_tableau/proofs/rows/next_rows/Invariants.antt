use Rattle.std.proofs.Common.{◌≡◌, ◌≢◌, ℕ, ◌<◌, length}
use Rattle.um_tableau.specs.Rows.{row_at, AreLong, IsNextLine}
use Rattle.um_tableau.proofs.rows.next_rows.Given as goal

-- the rows so far are written
abbrev pub invariant-loop-i : goal.invariant-loop-i
invariant-loop-i l = record {
  height : length l.out ≡ length l.rows;
  long : AreLong (length l.line) l.out;
  written : (k : ℕ) → k < l.i → k ≢ l.row → IsNextLine (row_at l.rows k) l.column l.line (row_at l.out k);
}
