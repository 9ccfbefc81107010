use Rattle.um_made.specs.NumberSteps.{AreEmpty}
use Rattle.um_made.proofs.numbers.no_numbers.Given as goal

abbrev pub invariant-loop-made : goal.invariant-loop-made
invariant-loop-made l = AreEmpty l._made l.rows.items
