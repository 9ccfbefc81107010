use Rattle.std.proofs.Common.{refl, sym, arith, ◌^◌}
use Rattle.std.proofs.lemmas.Int.{ints}
use Rattle.um_num.proofs.Parts.{from_bits}
use Rattle.um_treetext.specs.FrontLines.{tolerance_said}
use Rattle.um_treetext.proofs.Takes.{fails_with}
use Rattle.um_treetext.proofs.NumberWords.{natural_err, short_bits, thousandths_ok, thousandths_wide}
use Rattle.um_treetext.proofs.reading.front.thousandths.Goals as goal

pub returns-in_err-from_zero : goal.returns-in_err-from_zero
unfolding tolerance_said
returns-in_err-from_zero c = fails_with _ c.in_err-from_zero.field-0.0 _ c.from_residual.ensures.1 (rw (natural_err (2 ^ 63) _ _ (omega arith) c.in_err-from_zero.ensures.value) refl)

pub returns-in-Ok : goal.returns-in-Ok
returns-in-Ok c =
    let z = c.in_ok-from_zero.field-0 in
    let h = rw (from_bits z c.in_ok-from_zero.ensures.range) at c.in-Ok.ensures in
    rw (h.1, short_bits z h.0) (thousandths_ok c.args.word.now z c.in_ok-from_zero.ensures.value h.0)

pub returns-in-Err : goal.returns-in-Err
returns-in-Err c =
    let z = c.in_ok-from_zero.field-0 in
    let h = rw (from_bits z c.in_ok-from_zero.ensures.range) at c.in-Err.ensures in
    thousandths_wide c.args.word.now z c.in_ok-from_zero.ensures.value h
