use Rattle.std.proofs.Common.{refl, sym}
use Rattle.um_treetext.specs.Words.{fraction_or_none_said}
use Rattle.um_treetext.proofs.Takes.{fails_with}
use Rattle.um_treetext.proofs.reading.numbers.fraction_or_none.Goals as goal

pub returns-then-is_none_word : goal.returns-then-is_none_word
unfolding fraction_or_none_said
returns-then-is_none_word c = rw (← c.if-is_none_word.ensures) refl

pub returns-in_err-fraction : goal.returns-in_err-fraction
unfolding fraction_or_none_said
returns-in_err-fraction c = fails_with _ c.in_err-fraction.field-0.0 _ c.from_residual.ensures.1 (rw (← c.if-is_none_word.ensures, ← c.in_err-fraction.ensures) refl)

pub returns : goal.returns
unfolding fraction_or_none_said
returns c = rw (← c.if-is_none_word.ensures, ← c.in_ok-fraction.ensures) refl
