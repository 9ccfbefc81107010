use Rattle.std.proofs.Common.{◌≡◌, ℕ, ◌+◌, ◌<◌, length}
use Rattle.std.specs.Prelude.{slice_index}
use Rattle.um_tableau.proofs.start.first_basic.Given as goal

-- the slacks so far are there
abbrev pub invariant-loop-slack : goal.invariant-loop-slack
invariant-loop-slack l = record {
  height : length l.given.columns + length l.basic.items ≡ l.slack;
  slacks : (i : ℕ) → i < length l.basic.items → slice_index l.basic.items i ≡ length l.given.columns + i;
}
