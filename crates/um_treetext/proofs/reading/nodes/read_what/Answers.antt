use Rattle.std.proofs.Common.{refl, inr}
use Rattle.um_treetext.specs.NodeLines.{became_said}
use Rattle.um_treetext.specs.Words.{taking}
use Rattle.um_treetext.proofs.WantOfMemory.{hands_on}
use Rattle.um_treetext.proofs.reading.nodes.read_what.Goals as goal

pub returns-in_err-word : goal.returns-in_err-word
unfolding became_said taking
returns-in_err-word c = hands_on _ c.in_err-word.field-0.0 _ _ c.from_residual.ensures.1 (inr (rw c.in_err-word.ensures refl))

pub returns-in_err-word-2 : goal.returns-in_err-word-2
unfolding became_said taking
returns-in_err-word-2 c = hands_on _ c.in_err-word-2.field-0.0 _ _ c.from_residual-in_err-word-2.ensures.1 (inr (rw (c.in_ok-word.ensures, ← c.in_err-word-2.ensures) refl))

pub returns : goal.returns
unfolding became_said taking
returns c = rw (c.in_ok-word.ensures, ← c.in_ok-word-2.ensures) c.read_behind.ensures
