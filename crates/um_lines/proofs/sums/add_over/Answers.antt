use Rattle.std.proofs.Common.{◌≡◌, pos, rules, arith, FitsSigned}
use Rattle.std.specs.Int.{w64, w128}
use Rattle.std.proofs.lemmas.Int.{to_z-of_z, ints}
use Rattle.um_lines.specs.Turns.{AreSummedOver}
use Rattle.um_lines.proofs.HeldSums.{short_sum_is}
use Rattle.um_lines.proofs.sums.add_over.Goals as goal

pub part-requires-clause-divides : goal.part-requires-clause-divides
part-requires-clause-divides c =
    let f = c.ranges.sum_den in
    let g = c.ranges.divisor in
    let d = c.requires.divisor.divides in
    simp to_z-of_z d

pub returns : goal.returns
returns c =
    let f = c.ranges.sum_den in
    let g = c.ranges.divisor in
    let h : FitsSigned w128 c.part.result = search rules in
    let f1 : FitsSigned w64 c.args.factors.now.own = omega (arith, ints, c.args.factors.now.own_short) in
    let f2 : FitsSigned w64 c.args.factors.now.other = omega (arith, ints, c.args.factors.now.other_short) in
    let e = simp to_z-of_z at c.part.ensures.value in
    let size : pos c.in_ok-size.size ≡ c.args.divisor = simp to_z-of_z at c.in_ok-size.ensures.value in
    let v : AreSummedOver c.in_ok-size.size c.args.factors.now.own c.args.factors.now.other c.args.own.nums.now c.args.line.nums.now c.combine_sums.new.out = c.in_ok-top.ensures.value in
    simp to_z-of_z
    (short_sum_is c.args.factors.now c.args.own.nums.now c.args.line.nums.now c.args.sum_den c.args.divisor c.part.result c.in_ok-size.size c.in_ok-top.top c.combine_sums.new.out c.requires.positive c.requires.den_in c.requires.divisor (omega arith) size e v c.in_ok-top.ensures.within c.in_ok-top.ensures.short)
