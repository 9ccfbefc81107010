use Rattle.std.proofs.Common.{refl, rules, FitsSigned}
use Rattle.std.specs.Int.{w64}
use Rattle.um_treetext.proofs.NumberWords.{short_bits}
use Rattle.um_treetext.specs.NodeLines.{cut_said}
use Rattle.um_treetext.specs.Words.{taking}
use Rattle.um_treetext.proofs.Takes.{fails}
use Rattle.um_treetext.proofs.reading.nodes.read_int.Goals as goal

pub returns-in_err-word : goal.returns-in_err-word
unfolding cut_said taking
returns-in_err-word c = fails _ c.in_err-word.field-0.0 _ _ c.from_residual.ensures.1 (rw c.in_err-word.ensures refl)

pub returns-in_err-column : goal.returns-in_err-column
unfolding cut_said taking
returns-in_err-column c = fails _ c.in_err-column.field-0.0 _ _ c.from_residual-in_err-column.ensures.1 (rw (c.in_ok-word.ensures, ← c.in_err-column.ensures) refl)

pub returns-in_err-word-2 : goal.returns-in_err-word-2
unfolding cut_said taking
returns-in_err-word-2 c = fails _ c.in_err-word-2.field-0.0 _ _ c.from_residual-in_err-word-2.ensures.1 (rw (c.in_ok-word.ensures, ← c.in_ok-column.ensures, c.in_err-word-2.ensures) refl)

pub returns-in_err-below : goal.returns-in_err-below
unfolding cut_said taking
returns-in_err-below c = fails _ c.in_err-below.field-0.0 _ _ c.from_residual-in_err-below.ensures.1 (rw (c.in_ok-word.ensures, ← c.in_ok-column.ensures, c.in_ok-word-2.ensures, ← c.in_err-below.ensures) refl)

pub returns : goal.returns
unfolding cut_said taking
returns c = let fits : FitsSigned w64 c.in_ok-below.below = search rules in rw (short_bits c.in_ok-below.below fits, c.in_ok-word.ensures, ← c.in_ok-column.ensures, c.in_ok-word-2.ensures, ← c.in_ok-below.ensures) refl
