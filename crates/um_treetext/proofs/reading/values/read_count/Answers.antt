use Rattle.std.proofs.Common.{refl}
use Rattle.um_treetext.specs.Words.{taking}
use Rattle.um_treetext.proofs.Takes.{fails_with}
use Rattle.um_treetext.proofs.reading.values.read_count.Goals as goal

pub returns-in_err-word-clause-value : goal.returns-in_err-word-clause-value
unfolding taking
returns-in_err-word-clause-value c = fails_with _ c.in_err-word.field-0.0 _ c.from_residual-in_err-word.ensures.1 (rw (c.in_ok-fixed.ensures, c.in_err-word.ensures) refl)

pub returns-in_err-count-clause-value : goal.returns-in_err-count-clause-value
unfolding taking
returns-in_err-count-clause-value c = fails_with _ c.in_err-count.field-0.0 _ c.from_residual-in_err-count.ensures.1 (rw (c.in_ok-fixed.ensures, c.in_ok-word.ensures, ← c.in_err-count.ensures.value) refl)

pub returns-in_err-end-clause-value : goal.returns-in_err-end-clause-value
unfolding taking
returns-in_err-end-clause-value c = fails_with _ c.in_err-end.field-0.0 _ c.from_residual-in_err-end.ensures.1 (rw (c.in_ok-fixed.ensures, c.in_ok-word.ensures, ← c.in_ok-count.ensures.value, c.in_err-end.ensures) refl)

pub returns-clause-value : goal.returns-clause-value
unfolding taking
returns-clause-value c = rw (c.in_ok-fixed.ensures, c.in_ok-word.ensures, ← c.in_ok-count.ensures.value, c.in_ok-end.ensures) refl
