use Rattle.std.proofs.Common.{sym, ◌∙◌, ap, Ok}
use Rattle.um_num.proofs.Parts.{from_bits}
use Rattle.um_treetext.proofs.NumberWords.{bits_one, one_bits, lowest_ok, lowest_shared}
use Rattle.um_treetext.proofs.reading.numbers.lowest.Goals as goal

pub returns-then-gcd-ne1 : goal.returns-then-gcd-ne1
returns-then-gcd-ne1 c =
    let r = c.requires in
    let m = rw (from_bits c.args.den r.den_small, from_bits c.args.num r.num_small) at c.gcd.ensures.value in
    lowest_shared c.args.num c.args.den r.num_small r.den_small r.above (λ one. c.if-gcd-ne1.true (bits_one _ _ m one))

pub returns : goal.returns
returns c =
    let r = c.requires in
    let m = rw (from_bits c.args.den r.den_small, from_bits c.args.num r.num_small) at c.gcd.ensures.value in
    let e = rw (from_bits c.args.den r.den_small, from_bits c.args.num r.num_small) at c.new.ensures in
    ap Ok e ∙ lowest_ok c.args.num c.args.den r.num_small r.den_small r.above (one_bits _ _ m c.gcd.ensures.range c.if-gcd-ne1.false)
