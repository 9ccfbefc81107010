use Rattle.std.proofs.Common.{sym, ◌∙◌, ap, Ok}
use Rattle.um_num.proofs.Parts.{from_bits}
use Rattle.um_treetext.proofs.Takes.{fails_with}
use Rattle.um_treetext.proofs.NumberWords.{whole_err, whole_small, whole_large}
use Rattle.um_treetext.proofs.reading.numbers.whole_number.Goals as goal

pub returns-in_err-number-clause-value : goal.returns-in_err-number-clause-value
returns-in_err-number-clause-value c = fails_with _ c.in_err-number.field-0.0 _ c.from_residual.ensures.1 (whole_err _ _ c.in_err-number.ensures.numeral)

pub returns-in-Small-clause-value : goal.returns-in-Small-clause-value
returns-in-Small-clause-value c =
    let n = rw c.in-Small.is at c.in_ok-number.ensures.numeral in
    let h = rw c.in-Small.is at c.in_ok-number.ensures.range in
    rw (from_bits c.in-Small.number h) (whole_small c.args.word.now c.in-Small.number (n.is ∙ ap Ok (sym n.stands)) h)

pub returns-in-Large-clause-value : goal.returns-in-Large-clause-value
returns-in-Large-clause-value c = let n = rw c.in-Large.is at c.in_ok-number.ensures.numeral in whole_large c.args.word.now n.number _ n.is n.stands
