use Rattle.std.proofs.Common.{refl}
use Rattle.um_treetext.specs.NodeLines.{set_said}
use Rattle.um_treetext.specs.Words.{taking}
use Rattle.um_treetext.proofs.Takes.{fails}
use Rattle.um_treetext.proofs.reading.nodes.read_two.Goals as goal

pub returns-in_err-word : goal.returns-in_err-word
unfolding set_said taking
returns-in_err-word c = fails _ c.in_err-word.field-0.0 _ _ c.from_residual.ensures.1 (rw c.in_err-word.ensures refl)

pub returns-in_err-set : goal.returns-in_err-set
unfolding set_said taking
returns-in_err-set c = fails _ c.in_err-set.field-0.0 _ _ c.from_residual-in_err-set.ensures.1 (rw (c.in_ok-word.ensures, ← c.in_err-set.ensures) refl)

pub returns-in_err-word-2 : goal.returns-in_err-word-2
unfolding set_said taking
returns-in_err-word-2 c = fails _ c.in_err-word-2.field-0.0 _ _ c.from_residual-in_err-word-2.ensures.1 (rw (c.in_ok-word.ensures, ← c.in_ok-set.ensures, c.in_err-word-2.ensures) refl)

pub returns-in_err-at : goal.returns-in_err-at
unfolding set_said taking
returns-in_err-at c = fails _ c.in_err-at.field-0.0 _ _ c.from_residual-in_err-at.ensures.1 (rw (c.in_ok-word.ensures, ← c.in_ok-set.ensures, c.in_ok-word-2.ensures, ← c.in_err-at.ensures) refl)

pub returns : goal.returns
unfolding set_said taking
returns c = rw (c.in_ok-word.ensures, ← c.in_ok-set.ensures, c.in_ok-word-2.ensures, ← c.in_ok-at.ensures) refl
