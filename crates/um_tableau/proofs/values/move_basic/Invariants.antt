use Rattle.std.proofs.Common.{◌≡◌, ℕ, ◌<◌}
use Rattle.std.specs.Prelude.{slice_index}
use Rattle.um_laws.specs.Rational.{add, mul}
use Rattle.um_num.specs.NumberLists.{number_at}
use Rattle.um_tableau.specs.Rows.{entry_at}
use Rattle.um_tableau.proofs.values.move_basic.Given as goal

-- the values so far are written
abbrev pub invariant-loop-i : goal.invariant-loop-i
invariant-loop-i l = (k : ℕ) → k < l.i → number_at l.out k ≡ add (number_at l.values (slice_index l.basic k)) (mul (entry_at l.rows k l.column) l.change)
