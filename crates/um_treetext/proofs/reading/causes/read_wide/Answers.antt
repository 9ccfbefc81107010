use Rattle.std.proofs.Common.{refl}
use Rattle.um_treetext.specs.FrontLines.{wide_said}
use Rattle.um_num.proofs.Parts.{from_bits}
use Rattle.um_treetext.specs.Words.{taking}
use Rattle.um_treetext.proofs.Takes.{fails}
use Rattle.um_treetext.proofs.reading.causes.read_wide.Goals as goal

pub returns-in_err-word : goal.returns-in_err-word
unfolding wide_said taking
returns-in_err-word c = fails _ c.in_err-word.field-0.0 _ _ c.from_residual.ensures.1 (rw c.in_err-word.ensures refl)

pub returns-in_err-op : goal.returns-in_err-op
unfolding wide_said taking
returns-in_err-op c = fails _ c.in_err-op.field-0.0 _ _ c.from_residual-in_err-op.ensures.1 (rw (c.in_ok-word.ensures, ← c.in_err-op.ensures) refl)

pub returns-in_err-word-2 : goal.returns-in_err-word-2
unfolding wide_said taking
returns-in_err-word-2 c = fails _ c.in_err-word-2.field-0.0 _ _ c.from_residual-in_err-word-2.ensures.1 (rw (c.in_ok-word.ensures, ← c.in_ok-op.ensures, c.in_err-word-2.ensures) refl)

pub returns-in_err-left : goal.returns-in_err-left
unfolding wide_said taking
returns-in_err-left c = fails _ c.in_err-left.field-0.0 _ _ c.from_residual-in_err-left.ensures.1 (rw (c.in_ok-word.ensures, ← c.in_ok-op.ensures, c.in_ok-word-2.ensures, ← c.in_err-left.ensures.value) refl)

pub returns-in_err-word-3 : goal.returns-in_err-word-3
unfolding wide_said taking
returns-in_err-word-3 c = fails _ c.in_err-word-3.field-0.0 _ _ c.from_residual-in_err-word-3.ensures.1 (rw (c.in_ok-word.ensures, ← c.in_ok-op.ensures, c.in_ok-word-2.ensures, ← c.in_ok-left.ensures.value, c.in_err-word-3.ensures) refl)

pub returns-in_err-right : goal.returns-in_err-right
unfolding wide_said taking
returns-in_err-right c = fails _ c.in_err-right.field-0.0 _ _ c.from_residual-in_err-right.ensures.1 (rw (c.in_ok-word.ensures, ← c.in_ok-op.ensures, c.in_ok-word-2.ensures, ← c.in_ok-left.ensures.value, c.in_ok-word-3.ensures, ← c.in_err-right.ensures.value) refl)

pub returns : goal.returns
unfolding wide_said taking
returns c = rw (from_bits c.in_ok-left.left c.in_ok-left.ensures.range, from_bits c.in_ok-right.right c.in_ok-right.ensures.range, c.in_ok-word.ensures, ← c.in_ok-op.ensures, c.in_ok-word-2.ensures, ← c.in_ok-left.ensures.value, c.in_ok-word-3.ensures, ← c.in_ok-right.ensures.value) refl
