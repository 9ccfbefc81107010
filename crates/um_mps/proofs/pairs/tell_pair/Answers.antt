use Rattle.um_mps.proofs.PairSteps.{entry_may}
use Rattle.um_mps.proofs.pairs.tell_pair.Goals as goal

pub returns-in-Entry-clause-may : goal.returns-in-Entry-clause-may
returns-in-Entry-clause-may c = rw c.in-Entry.is (entry_may _ _ _ _ _ (rw c.in-Entry.is at c.requires.may) c.entry.ensures)
