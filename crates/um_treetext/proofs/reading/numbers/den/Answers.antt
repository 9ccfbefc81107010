use Rattle.std.proofs.Common.{sym, ◌∙◌, ap, Ok}
use Rattle.um_num.proofs.Parts.{from_bits}
use Rattle.um_treetext.proofs.Takes.{fails_with}
use Rattle.um_treetext.proofs.NumberWords.{den_err, den_given, den_large, den_negative}
use Rattle.um_treetext.proofs.reading.numbers.den.Goals as goal

pub returns-in_err-number : goal.returns-in_err-number
returns-in_err-number c = fails_with _ c.in_err-number.field-0.0 _ c.from_residual.ensures.1 (den_err _ _ c.in_err-number.ensures.numeral)

pub returns-in-Small : goal.returns-in-Small
returns-in-Small c =
    let n = rw c.in-Small.is at c.in_ok-number.ensures.numeral in
    let h = rw c.in-Small.is at c.in_ok-number.ensures.range in
    let r = rw (from_bits c.in-Small.number h) at c.above_zero.ensures in
    den_given c.above_zero.result c.args.word.now c.in-Small.number (n.is ∙ ap Ok (sym n.stands)) h r

pub returns-in-Large-true : goal.returns-in-Large-true
returns-in-Large-true c = let n = rw (c.in-Large-true.is, c.in-Large-true.negative-test) at c.in_ok-number.ensures.numeral in den_negative c.args.word.now n.number n.is n.stands

pub returns-in-Large-false : goal.returns-in-Large-false
returns-in-Large-false c = let n = rw (c.in-Large-false.is, c.in-Large-false.negative-test) at c.in_ok-number.ensures.numeral in den_large c.args.word.now n.number n.is n.stands
