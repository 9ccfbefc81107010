use Rattle.std.proofs.Common.{◌≡◌, ◌<◌, ℕ}
use Rattle.std.specs.Prelude.{pos}
use Rattle.um_laws.specs.Rational.{whole}
use Rattle.um_num.specs.NumberLists.{number_at}
use Rattle.um_relax.proofs.infeasible.divisor.Given as goal

abbrev pub invariant-loop-entry : goal.invariant-loop-entry
invariant-loop-entry l = (i : ℕ) → i < l.entry-index → number_at l.entries i ≡ whole (pos 0)
