use Rattle.std.proofs.Common.{sym, arith, ◌^◌}
use Rattle.std.proofs.lemmas.Int.{ints}
use Rattle.um_num.proofs.Parts.{from_bits}
use Rattle.um_treetext.proofs.Takes.{fails_with}
use Rattle.um_treetext.proofs.NumberWords.{natural_err, natural_ok, natural_wide}
use Rattle.um_treetext.proofs.reading.numbers.steps.Goals as goal

pub returns-in_err-from_zero : goal.returns-in_err-from_zero
returns-in_err-from_zero c = fails_with _ c.in_err-from_zero.field-0.0 _ c.from_residual.ensures.1 (natural_err _ _ _ (omega arith) c.in_err-from_zero.ensures.value)

pub returns-in-Ok : goal.returns-in-Ok
returns-in-Ok c =
    let z = c.in_ok-from_zero.field-0 in
    let h = rw (from_bits z c.in_ok-from_zero.ensures.range) at c.in-Ok.ensures in
    sym (natural_ok _ c.args.word.now z c.in-Ok.number c.in_ok-from_zero.ensures.value (omega (arith, ints, h)) (omega (arith, ints, h)))

pub returns-in-Err : goal.returns-in-Err
returns-in-Err c =
    let z = c.in_ok-from_zero.field-0 in
    let h = rw (from_bits z c.in_ok-from_zero.ensures.range) at c.in-Err.ensures in
    sym (natural_wide _ c.args.word.now z c.in_ok-from_zero.ensures.value (λ a b. h (a, omega (arith, ints, b))))
