use Rattle.std.proofs.Common.{rules, FitsSigned}
use Rattle.std.specs.Int.{w128}
use Rattle.std.proofs.lemmas.Int.{to_z-of_z}
use Rattle.um_num.proofs.Steps.{gcd_up, gcd_left, gcd_right}
use Rattle.um_lines.proofs.quotients.shared_by.Goals as goal

pub returns-clause-positive : goal.returns-clause-positive
returns-clause-positive c =
    let f1 = c.ranges.den in
    let f2 = c.ranges.num in
    let f3 : FitsSigned w128 c.gcd.result = search rules in
    let e = simp to_z-of_z at c.gcd.ensures.value in
    simp to_z-of_z (gcd_up c.args.num c.args.den c.gcd.result e c.requires.positive)

pub returns-clause-den : goal.returns-clause-den
returns-clause-den c =
    let f1 = c.ranges.den in
    let f2 = c.ranges.num in
    let f3 : FitsSigned w128 c.gcd.result = search rules in
    let e = simp to_z-of_z at c.gcd.ensures.value in
    simp to_z-of_z (gcd_right c.args.num c.args.den c.gcd.result e)

pub returns-clause-num : goal.returns-clause-num
returns-clause-num c =
    let f1 = c.ranges.den in
    let f2 = c.ranges.num in
    let f3 : FitsSigned w128 c.gcd.result = search rules in
    let e = simp to_z-of_z at c.gcd.ensures.value in
    simp to_z-of_z (gcd_left c.args.num c.args.den c.gcd.result e)

pub returns-clause-greatest : goal.returns-clause-greatest
returns-clause-greatest c d hd hn =
    let f1 = c.ranges.den in
    let f2 = c.ranges.num in
    let f3 : FitsSigned w128 c.gcd.result = search rules in
    let g = simp to_z-of_z at c.gcd.ensures.greatest in
    simp to_z-of_z (g.2 d hn hd)
