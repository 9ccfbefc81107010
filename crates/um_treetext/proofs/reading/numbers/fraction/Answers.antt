use Rattle.std.proofs.Common.{refl, sym, ◌∙◌, ap, Ok}
use Rattle.um_num.proofs.Parts.{from_bits}
use Rattle.um_treetext.proofs.Takes.{fails_with}
use Rattle.um_treetext.proofs.NumberWords.{fraction_parts, fraction_whole, whole_is}
use Rattle.um_treetext.proofs.reading.numbers.fraction.Goals as goal

pub returns-in_err-numeral_of-in-Some : goal.returns-in_err-numeral_of-in-Some
returns-in_err-numeral_of-in-Some c = fails_with _ c.in_err-numeral_of-in-Some.field-0.0 _ c.from_residual.ensures.1 ((let s = c.in-Some.ensures in fraction_parts c.args.word.now c.in-Some.num.now c.in-Some.den.now s.0 s.1 s.2) ∙ rw c.in_err-numeral_of-in-Some.ensures.numeral refl)

pub returns-in_err-numeral_of-in-Some-2 : goal.returns-in_err-numeral_of-in-Some-2
returns-in_err-numeral_of-in-Some-2 c =
    let n = c.in_ok-numeral_of-in-Some.ensures.numeral in
    fails_with _ c.in_err-numeral_of-in-Some-2.field-0.0 _ c.from_residual-in_err-numeral_of-in-Some-2.ensures.1 ((let s = c.in-Some.ensures in fraction_parts c.args.word.now c.in-Some.num.now c.in-Some.den.now s.0 s.1 s.2) ∙ rw (n.is, c.in_err-numeral_of-in-Some-2.ensures.numeral) refl)

pub returns-in_err-whole_number-in-None : goal.returns-in_err-whole_number-in-None
returns-in_err-whole_number-in-None c = fails_with _ c.in_err-whole_number-in-None.field-0.0 _ c.from_residual-in_err-whole_number-in-None.ensures.1 (fraction_whole c.args.word.now c.in-None.ensures ∙ rw (← c.in_err-whole_number-in-None.ensures.value) refl)

pub returns-in_ok-numeral_of-in-Some-2 : goal.returns-in_ok-numeral_of-in-Some-2
returns-in_ok-numeral_of-in-Some-2 c =
    let n = c.in_ok-numeral_of-in-Some.ensures.numeral in
    let d = c.in_ok-numeral_of-in-Some-2.ensures.numeral in
    c.reduced.ensures n.number d.number n.stands d.stands ∙ sym ((let s = c.in-Some.ensures in fraction_parts c.args.word.now c.in-Some.num.now c.in-Some.den.now s.0 s.1 s.2) ∙ rw (n.is, d.is) refl)

pub returns-in_ok-whole_number-in-None : goal.returns-in_ok-whole_number-in-None
returns-in_ok-whole_number-in-None c =
    let e = rw (from_bits c.in_ok-whole_number-in-None.field-0 c.in_ok-whole_number-in-None.ensures.range) at c.new.ensures in
    ap Ok e ∙ sym (fraction_whole c.args.word.now c.in-None.ensures ∙ rw (← c.in_ok-whole_number-in-None.ensures.value) refl)
