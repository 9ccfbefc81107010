use Rattle.std.proofs.Common.{refl}
use Rattle.um_treetext.specs.Words.{taking}
use Rattle.um_treetext.proofs.Takes.{fails_with}
use Rattle.um_treetext.proofs.reading.causes.read_why.Goals as goal

pub returns-in_err-word : goal.returns-in_err-word
unfolding taking
returns-in_err-word c = fails_with _ c.in_err-word.field-0.0 _ c.from_residual-in_err-word.ensures.1 (rw (c.in_ok-fixed.ensures, c.in_err-word.ensures) refl)

pub returns-in_err-cause : goal.returns-in_err-cause
unfolding taking
returns-in_err-cause c = fails_with _ c.in_err-cause.field-0.0 _ c.from_residual-in_err-cause.ensures.1 (rw (c.in_ok-fixed.ensures, c.in_ok-word.ensures, ← c.in_err-cause.ensures) refl)

pub returns-in_err-why : goal.returns-in_err-why
unfolding taking
returns-in_err-why c = fails_with _ c.in_err-why.field-0.0 _ c.from_residual-in_err-why.ensures.1 (rw (c.in_ok-fixed.ensures, c.in_ok-word.ensures, ← c.in_ok-cause.ensures, c.in_err-why.ensures) refl)

pub returns-in_err-end : goal.returns-in_err-end
unfolding taking
returns-in_err-end c = fails_with _ c.in_err-end.field-0.0 _ c.from_residual-in_err-end.ensures.1 (rw (c.in_ok-fixed.ensures, c.in_ok-word.ensures, ← c.in_ok-cause.ensures, c.in_ok-why.ensures, c.in_err-end.ensures) refl)

pub returns : goal.returns
unfolding taking
returns c = rw (c.in_ok-fixed.ensures, c.in_ok-word.ensures, ← c.in_ok-cause.ensures, c.in_ok-why.ensures, c.in_ok-end.ensures) refl
