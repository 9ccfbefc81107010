use Rattle.std.proofs.Common.{refl}
use Rattle.um_treetext.specs.Words.{taking}
use Rattle.um_treetext.proofs.Takes.{fails_with}
use Rattle.um_treetext.proofs.reading.front.read_kind.Goals as goal

pub returns-in_err-word : goal.returns-in_err-word
unfolding taking
returns-in_err-word c = fails_with _ c.in_err-word.field-0.0 _ c.from_residual-in_err-word.ensures.1 (rw (c.in_ok-fixed.ensures, c.in_err-word.ensures) refl)

pub returns-in_err-kind : goal.returns-in_err-kind
unfolding taking
returns-in_err-kind c = fails_with _ c.in_err-kind.field-0.0 _ c.from_residual-in_err-kind.ensures.1 (rw (c.in_ok-fixed.ensures, c.in_ok-word.ensures, ← c.in_err-kind.ensures) refl)

pub returns-in_err-end : goal.returns-in_err-end
unfolding taking
returns-in_err-end c = fails_with _ c.in_err-end.field-0.0 _ c.from_residual-in_err-end.ensures.1 (rw (c.in_ok-fixed.ensures, c.in_ok-word.ensures, ← c.in_ok-kind.ensures, c.in_err-end.ensures) refl)

pub returns : goal.returns
unfolding taking
returns c = rw (c.in_ok-fixed.ensures, c.in_ok-word.ensures, ← c.in_ok-kind.ensures, c.in_ok-end.ensures) refl
