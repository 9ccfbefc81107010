use Rattle.um_tableau.proofs.ValueSteps.{Settled}
use Rattle.um_tableau.proofs.values.settle_basic.Given as goal

-- the basic columns of the rows so far have their values, and all others stand as they did
abbrev pub invariant-loop-i : goal.invariant-loop-i
invariant-loop-i l = Settled l.i l.basic l.moved l.values l.initial.values
