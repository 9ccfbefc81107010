use Rattle.std.proofs.Common.{◌≡◌, ℕ, ◌<◌}
use Rattle.std.specs.Prelude.{pos}
use Rattle.um_laws.specs.Rational.{whole}
use Rattle.um_num.specs.NumberLists.{number_at}
use Rattle.um_tableau.proofs.reset.clear_values.Given as goal

-- the columns so far are 0
abbrev pub invariant-loop-j : goal.invariant-loop-j
invariant-loop-j l = (k : ℕ) → k < l.j → number_at l.values k ≡ whole (pos 0)
