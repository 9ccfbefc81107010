use Rattle.std.proofs.Common.{refl}
use Rattle.std.proofs.lemmas.List.{length-map}
use Rattle.um_treetext.specs.Words.{taking}
use Rattle.um_treetext.proofs.Takes.{fails, over_end}
use Rattle.um_treetext.proofs.reading.front.read_deck.Goals as goal

pub returns-in_err-word : goal.returns-in_err-word
unfolding taking
returns-in_err-word c = fails _ c.in_err-word.field-0.0 _ _ c.from_residual-in_err-word.ensures.1 (rw (c.in_ok-fixed.ensures, c.in_err-word.ensures) refl)

pub returns-in_err-check_name : goal.returns-in_err-check_name
unfolding taking
returns-in_err-check_name c = fails _ c.in_err-check_name.field-0.0 _ _ c.from_residual-in_err-check_name.ensures.1 (rw (c.in_ok-fixed.ensures, c.in_ok-word.ensures, ← c.name.ensures, ← c.as_bytes.ensures, c.in_err-check_name.ensures) refl)

pub returns-in_err-word-2 : goal.returns-in_err-word-2
unfolding taking
returns-in_err-word-2 c = fails _ c.in_err-word-2.field-0.0 _ _ c.from_residual-in_err-word-2.ensures.1 (rw (c.in_ok-fixed.ensures, c.in_ok-word.ensures, ← c.name.ensures, ← c.as_bytes.ensures, c.in_ok-check_name.ensures, c.in_err-word-2.ensures) refl)

pub returns-in_err-check_count : goal.returns-in_err-check_count
unfolding taking
returns-in_err-check_count c = fails _ c.in_err-check_count.field-0.0 _ _ c.from_residual-in_err-check_count.ensures.1 (rw (c.in_ok-fixed.ensures, c.in_ok-word.ensures, ← c.name.ensures, ← c.as_bytes.ensures, c.in_ok-check_name.ensures, c.in_ok-word-2.ensures, ← c.rows.ensures, c.in_err-check_count.ensures) refl)

pub returns-in_err-word-3 : goal.returns-in_err-word-3
unfolding taking
returns-in_err-word-3 c = fails _ c.in_err-word-3.field-0.0 _ _ c.from_residual-in_err-word-3.ensures.1 (rw (c.in_ok-fixed.ensures, c.in_ok-word.ensures, ← c.name.ensures, ← c.as_bytes.ensures, c.in_ok-check_name.ensures, c.in_ok-word-2.ensures, ← c.rows.ensures, c.in_ok-check_count.ensures, c.in_err-word-3.ensures) refl)

pub returns-in_err-check_count-2 : goal.returns-in_err-check_count-2
unfolding taking
returns-in_err-check_count-2 c = fails _ c.in_err-check_count-2.field-0.0 _ _ c.from_residual-in_err-check_count-2.ensures.1 (rw (c.in_ok-fixed.ensures, c.in_ok-word.ensures, ← c.name.ensures, ← c.as_bytes.ensures, c.in_ok-check_name.ensures, c.in_ok-word-2.ensures, ← c.rows.ensures, c.in_ok-check_count.ensures, c.in_ok-word-3.ensures, ← c.columns.ensures, length-map, c.in_err-check_count-2.ensures) refl)

pub returns-in_err-word-4 : goal.returns-in_err-word-4
unfolding taking
returns-in_err-word-4 c = fails _ c.in_err-word-4.field-0.0 _ _ c.from_residual-in_err-word-4.ensures.1 (rw (c.in_ok-fixed.ensures, c.in_ok-word.ensures, ← c.name.ensures, ← c.as_bytes.ensures, c.in_ok-check_name.ensures, c.in_ok-word-2.ensures, ← c.rows.ensures, c.in_ok-check_count.ensures, c.in_ok-word-3.ensures, ← c.columns.ensures, length-map, c.in_ok-check_count-2.ensures, c.in_err-word-4.ensures) refl)

pub returns-in_err-check_count-3 : goal.returns-in_err-check_count-3
unfolding taking
returns-in_err-check_count-3 c = fails _ c.in_err-check_count-3.field-0.0 _ _ c.from_residual-in_err-check_count-3.ensures.1 (rw (c.in_ok-fixed.ensures, c.in_ok-word.ensures, ← c.name.ensures, ← c.as_bytes.ensures, c.in_ok-check_name.ensures, c.in_ok-word-2.ensures, ← c.rows.ensures, c.in_ok-check_count.ensures, c.in_ok-word-3.ensures, ← c.columns.ensures, length-map, c.in_ok-check_count-2.ensures, c.in_ok-word-4.ensures, ← c.sets.ensures, length-map, c.in_err-check_count-3.ensures) refl)

pub returns-in_err-word-5 : goal.returns-in_err-word-5
unfolding taking
returns-in_err-word-5 c = fails _ c.in_err-word-5.field-0.0 _ _ c.from_residual-in_err-word-5.ensures.1 (rw (c.in_ok-fixed.ensures, c.in_ok-word.ensures, ← c.name.ensures, ← c.as_bytes.ensures, c.in_ok-check_name.ensures, c.in_ok-word-2.ensures, ← c.rows.ensures, c.in_ok-check_count.ensures, c.in_ok-word-3.ensures, ← c.columns.ensures, length-map, c.in_ok-check_count-2.ensures, c.in_ok-word-4.ensures, ← c.sets.ensures, length-map, c.in_ok-check_count-3.ensures, c.in_err-word-5.ensures) refl)

pub returns-in_err-check_count-4 : goal.returns-in_err-check_count-4
unfolding taking
returns-in_err-check_count-4 c = fails _ c.in_err-check_count-4.field-0.0 _ _ c.from_residual-in_err-check_count-4.ensures.1 (rw (c.in_ok-fixed.ensures, c.in_ok-word.ensures, ← c.name.ensures, ← c.as_bytes.ensures, c.in_ok-check_name.ensures, c.in_ok-word-2.ensures, ← c.rows.ensures, c.in_ok-check_count.ensures, c.in_ok-word-3.ensures, ← c.columns.ensures, length-map, c.in_ok-check_count-2.ensures, c.in_ok-word-4.ensures, ← c.sets.ensures, length-map, c.in_ok-check_count-3.ensures, c.in_ok-word-5.ensures, ← c.arcs.ensures, c.in_err-check_count-4.ensures) refl)

pub returns : goal.returns
unfolding taking
returns c = over_end c.end.result _ _ _ c.end.ensures (rw (c.in_ok-fixed.ensures, c.in_ok-word.ensures, ← c.name.ensures, ← c.as_bytes.ensures, c.in_ok-check_name.ensures, c.in_ok-word-2.ensures, ← c.rows.ensures, c.in_ok-check_count.ensures, c.in_ok-word-3.ensures, ← c.columns.ensures, length-map, c.in_ok-check_count-2.ensures, c.in_ok-word-4.ensures, ← c.sets.ensures, length-map, c.in_ok-check_count-3.ensures, c.in_ok-word-5.ensures, ← c.arcs.ensures, c.in_ok-check_count-4.ensures) refl)
