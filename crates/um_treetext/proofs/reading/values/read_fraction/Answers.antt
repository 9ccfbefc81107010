use Rattle.std.proofs.Common.{refl}
use Rattle.um_treetext.specs.Words.{taking}
use Rattle.um_treetext.proofs.Takes.{fails_with}
use Rattle.um_treetext.proofs.reading.values.read_fraction.Goals as goal

pub returns-in_err-word : goal.returns-in_err-word
unfolding taking
returns-in_err-word c = fails_with _ c.in_err-word.field-0.0 _ c.from_residual-in_err-word.ensures.1 (rw (c.in_ok-fixed.ensures, c.in_err-word.ensures) refl)

pub returns-in_err-fraction : goal.returns-in_err-fraction
unfolding taking
returns-in_err-fraction c = fails_with _ c.in_err-fraction.field-0.0 _ c.from_residual-in_err-fraction.ensures.1 (rw (c.in_ok-fixed.ensures, c.in_ok-word.ensures, ← c.in_err-fraction.ensures) refl)

pub returns-in_err-end : goal.returns-in_err-end
unfolding taking
returns-in_err-end c = fails_with _ c.in_err-end.field-0.0 _ c.from_residual-in_err-end.ensures.1 (rw (c.in_ok-fixed.ensures, c.in_ok-word.ensures, ← c.in_ok-fraction.ensures, c.in_err-end.ensures) refl)

pub returns : goal.returns
unfolding taking
returns c = rw (c.in_ok-fixed.ensures, c.in_ok-word.ensures, ← c.in_ok-fraction.ensures, c.in_ok-end.ensures) refl
