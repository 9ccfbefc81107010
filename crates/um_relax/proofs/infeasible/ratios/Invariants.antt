use Rattle.std.proofs.Common.{◌≡◌, take, map}
use Rattle.um_laws.specs.Rational.{Rational, mul, inverse}
use Rattle.um_relax.proofs.infeasible.ratios.Given as goal

abbrev pub invariant-loop-entry : goal.invariant-loop-entry
invariant-loop-entry l = l.ratios.items ≡ map (λ (x : Rational). mul x (inverse l.divisor)) (take l.entry-index l.entries)
