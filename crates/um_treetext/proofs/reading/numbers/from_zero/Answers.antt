use Rattle.std.proofs.Common.{sym, ◌∙◌, ap, Ok}
use Rattle.um_num.proofs.Parts.{from_bits}
use Rattle.um_treetext.proofs.Takes.{fails_with}
use Rattle.um_treetext.proofs.NumberWords.{zero_err, zero_given, zero_large, zero_large_negative}
use Rattle.um_treetext.proofs.reading.numbers.from_zero.Goals as goal

pub returns-in_err-number-clause-value : goal.returns-in_err-number-clause-value
returns-in_err-number-clause-value c = fails_with _ c.in_err-number.field-0.0 _ c.from_residual.ensures.1 (zero_err _ _ c.in_err-number.ensures.numeral)

pub returns-in-Small-clause-value : goal.returns-in-Small-clause-value
returns-in-Small-clause-value c =
    let n = rw c.in-Small.is at c.in_ok-number.ensures.numeral in
    let h = rw c.in-Small.is at c.in_ok-number.ensures.range in
    let r = rw (from_bits c.in-Small.number h) at c.not_below_zero.ensures in
    zero_given c.not_below_zero.result c.args.word.now c.in-Small.number (n.is ∙ ap Ok (sym n.stands)) h r

pub returns-in-Large-true-clause-value : goal.returns-in-Large-true-clause-value
returns-in-Large-true-clause-value c = let n = rw (c.in-Large-true.is, c.in-Large-true.negative-test) at c.in_ok-number.ensures.numeral in zero_large_negative c.args.word.now n.number n.is n.stands

pub returns-in-Large-false-clause-value : goal.returns-in-Large-false-clause-value
returns-in-Large-false-clause-value c = let n = rw (c.in-Large-false.is, c.in-Large-false.negative-test) at c.in_ok-number.ensures.numeral in zero_large c.args.word.now n.number n.is n.stands
