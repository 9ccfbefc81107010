use Rattle.std.proofs.Common.{refl, inr}
use Rattle.um_num.proofs.Parts.{from_bits}
use Rattle.um_treetext.specs.NodeLines.{multipliers_said}
use Rattle.um_treetext.specs.Words.{taking}
use Rattle.um_treetext.proofs.WantOfMemory.{hands_on, first_faults}
use Rattle.um_treetext.proofs.reading.nodes.read_multipliers.Goals as goal

pub returns-in_err-word : goal.returns-in_err-word
unfolding multipliers_said taking
returns-in_err-word c = hands_on _ c.in_err-word.field-0.0 _ _ c.from_residual.ensures.1 (inr (rw c.in_err-word.ensures refl))

pub returns-in_err-y0 : goal.returns-in_err-y0
unfolding multipliers_said taking
returns-in_err-y0 c = hands_on _ c.in_err-y0.field-0.0 _ _ c.from_residual-in_err-y0.ensures.1 (inr (rw (c.in_ok-word.ensures, ← c.in_err-y0.ensures.value) refl))

pub returns-in_err-rows : goal.returns-in_err-rows
unfolding multipliers_said taking
returns-in_err-rows c = hands_on _ c.in_err-rows.field-0.0 _ _ c.from_residual-in_err-rows.ensures.1 (rw (c.in_ok-word.ensures, ← c.in_ok-y0.ensures.value) (first_faults _ _ _ c.in_err-rows.ensures.prices))

pub returns : goal.returns
unfolding multipliers_said taking
returns c = rw (from_bits c.in_ok-y0.y0 c.in_ok-y0.ensures.range, c.in_ok-word.ensures, ← c.in_ok-y0.ensures.value, c.in_ok-rows.ensures.prices, c.in_ok-rows.ensures.over) refl
