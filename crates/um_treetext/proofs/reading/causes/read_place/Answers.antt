use Rattle.std.proofs.Common.{refl}
use Rattle.um_treetext.specs.FrontLines.{step_place_said}
use Rattle.um_treetext.specs.Words.{taking}
use Rattle.um_treetext.proofs.Takes.{fails}
use Rattle.um_treetext.proofs.reading.causes.read_place.Goals as goal

pub returns-in_err-word : goal.returns-in_err-word
unfolding step_place_said taking
returns-in_err-word c = fails _ c.in_err-word.field-0.0 _ _ c.from_residual.ensures.1 (rw c.in_err-word.ensures refl)

pub returns-in_err-number : goal.returns-in_err-number
unfolding step_place_said taking
returns-in_err-number c = fails _ c.in_err-number.field-0.0 _ _ c.from_residual-in_err-number.ensures.1 (rw (c.in_ok-word.ensures, ← c.in_err-number.ensures) refl)

pub returns-in_err-word-2 : goal.returns-in_err-word-2
unfolding step_place_said taking
returns-in_err-word-2 c = fails _ c.in_err-word-2.field-0.0 _ _ c.from_residual-in_err-word-2.ensures.1 (rw (c.in_ok-word.ensures, ← c.in_ok-number.ensures, c.in_err-word-2.ensures) refl)

pub returns-in_err-step : goal.returns-in_err-step
unfolding step_place_said taking
returns-in_err-step c = fails _ c.in_err-step.field-0.0 _ _ c.from_residual-in_err-step.ensures.1 (rw (c.in_ok-word.ensures, ← c.in_ok-number.ensures, c.in_ok-word-2.ensures, ← c.in_err-step.ensures) refl)

pub returns : goal.returns
unfolding step_place_said taking
returns c = rw (c.in_ok-word.ensures, ← c.in_ok-number.ensures, c.in_ok-word-2.ensures, ← c.in_ok-step.ensures) refl
