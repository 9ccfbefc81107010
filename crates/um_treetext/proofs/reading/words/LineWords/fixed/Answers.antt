use Rattle.std.proofs.Common.{refl}
use Rattle.um_treetext.specs.Words.{fixed}
use Rattle.um_treetext.proofs.Takes.{fails}
use Rattle.um_treetext.proofs.reading.words.LineWords.fixed.Goals as goal

pub returns-in_err-word : goal.returns-in_err-word
unfolding fixed
returns-in_err-word c = fails _ c.in_err-word.field-0.0 _ _ c.from_residual.ensures.1 (rw c.in_err-word.ensures refl)

pub returns-then-eq : goal.returns-then-eq
unfolding fixed
returns-then-eq c = rw (c.in_ok-word.ensures, ← c.if-eq.ensures) refl

pub returns-else-eq : goal.returns-else-eq
unfolding fixed
returns-else-eq c = rw (c.in_ok-word.ensures, ← c.if-eq.ensures) refl
