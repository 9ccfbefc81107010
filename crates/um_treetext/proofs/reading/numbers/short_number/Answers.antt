use Rattle.um_num.proofs.Parts.{from_bits}
use Rattle.um_treetext.proofs.Takes.{fails_with}
use Rattle.um_treetext.proofs.NumberWords.{short_bits, short_err, short_ok, short_wide}
use Rattle.um_treetext.proofs.reading.numbers.short_number.Goals as goal

pub returns-in_err-whole_number : goal.returns-in_err-whole_number
returns-in_err-whole_number c = fails_with _ c.in_err-whole_number.field-0.0 _ c.from_residual.ensures.1 (short_err _ _ c.in_err-whole_number.ensures.value)

pub returns-in-Ok : goal.returns-in-Ok
returns-in-Ok c =
    let z = c.in_ok-whole_number.field-0 in
    let h = rw (from_bits z c.in_ok-whole_number.ensures.range) at c.in-Ok.ensures in
    rw (h.1, short_bits z h.0) (short_ok c.args.word.now z c.in_ok-whole_number.ensures.value h.0)

pub returns-in-Err : goal.returns-in-Err
returns-in-Err c =
    let z = c.in_ok-whole_number.field-0 in
    let h = rw (from_bits z c.in_ok-whole_number.ensures.range) at c.in-Err.ensures in
    short_wide c.args.word.now z c.in_ok-whole_number.ensures.value h
