use Rattle.std.proofs.Common.{refl}
use Rattle.um_treetext.specs.NodeLines.{semi_said}
use Rattle.um_treetext.specs.Words.{taking}
use Rattle.um_treetext.proofs.Takes.{fails}
use Rattle.um_treetext.proofs.reading.nodes.read_semi.Goals as goal

pub returns-in_err-word : goal.returns-in_err-word
unfolding semi_said taking
returns-in_err-word c = fails _ c.in_err-word.field-0.0 _ _ c.from_residual.ensures.1 (rw c.in_err-word.ensures refl)

pub returns-in_err-column : goal.returns-in_err-column
unfolding semi_said taking
returns-in_err-column c = fails _ c.in_err-column.field-0.0 _ _ c.from_residual-in_err-column.ensures.1 (rw (c.in_ok-word.ensures, ← c.in_err-column.ensures) refl)

pub returns : goal.returns
unfolding semi_said taking
returns c = rw (c.in_ok-word.ensures, ← c.in_ok-column.ensures) refl
