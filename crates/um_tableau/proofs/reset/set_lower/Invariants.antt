use Rattle.std.proofs.Common.{◌≡◌, ℕ, ◌<◌}
use Rattle.std.specs.Prelude.{slice_index_or}
use Rattle.um_lp.specs.declared.board.At.TheVariants.{Lower, Zero}
use Rattle.um_tableau.proofs.reset.set_lower.Given as goal

-- the columns so far are at their low ends
abbrev pub invariant-loop-j : goal.invariant-loop-j
invariant-loop-j l = (k : ℕ) → k < l.j → slice_index_or l.at k Zero ≡ Lower
