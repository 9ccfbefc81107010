use Rattle.std.proofs.Common.{refl, rules, FitsSigned}
use Rattle.um_treetext.specs.Words.{taking}
use Rattle.std.specs.Int.{w64}
use Rattle.um_treetext.proofs.NumberWords.{short_bits}
use Rattle.um_treetext.proofs.Takes.{fails_with}
use Rattle.um_treetext.proofs.reading.front.read_tolerance.Goals as goal

pub returns-in_err-word : goal.returns-in_err-word
unfolding taking
returns-in_err-word c = fails_with _ c.in_err-word.field-0.0 _ c.from_residual-in_err-word.ensures.1 (rw (c.in_ok-fixed.ensures, c.in_err-word.ensures) refl)

pub returns-in_err-tolerance : goal.returns-in_err-tolerance
unfolding taking
returns-in_err-tolerance c = fails_with _ c.in_err-tolerance.field-0.0 _ c.from_residual-in_err-tolerance.ensures.1 (rw (c.in_ok-fixed.ensures, c.in_ok-word.ensures, ← c.in_err-tolerance.ensures) refl)

pub returns-in_err-end : goal.returns-in_err-end
unfolding taking
returns-in_err-end c = fails_with _ c.in_err-end.field-0.0 _ c.from_residual-in_err-end.ensures.1 (rw (c.in_ok-fixed.ensures, c.in_ok-word.ensures, ← c.in_ok-tolerance.ensures, c.in_err-end.ensures) refl)

pub returns : goal.returns
unfolding taking
returns c = let fits : FitsSigned w64 c.in_ok-tolerance.tolerance = search rules in rw (short_bits c.in_ok-tolerance.tolerance fits, c.in_ok-fixed.ensures, c.in_ok-word.ensures, ← c.in_ok-tolerance.ensures, c.in_ok-end.ensures) refl
