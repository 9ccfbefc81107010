use Rattle.std.proofs.Common.{◌≡◌, ℕ, ◌<◌, length}
use Rattle.um_tableau.specs.Rows.{row_at, AreLong}
use Rattle.um_tableau.proofs.reset.copy_lines.Given as goal

-- the rows so far are copied
abbrev pub invariant-loop-i : goal.invariant-loop-i
invariant-loop-i l = record {
  height : length l.out ≡ length l.rows;
  long : AreLong (length l.zeros) l.out;
  copied : (k : ℕ) → k < l.i → row_at l.out k ≡ row_at l.rows k;
}
