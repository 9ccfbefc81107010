use Rattle.std.proofs.Common.{arith, FitsSigned}
use Rattle.std.specs.Int.{w128}
use Rattle.std.proofs.lemmas.Int.{to_z-of_z, ints}
use Rattle.um_lines.proofs.sums.add_short.Goals as goal

pub add_over-requires-clause-divisor : goal.add_over-requires-clause-divisor
add_over-requires-clause-divisor c =
    let f = c.ranges.sum_den in
    let g : FitsSigned w128 c.guess_divisor-guess.result = omega (arith, ints, c.guess_divisor-guess.ensures.range) in
    let d = simp to_z-of_z at c.guess_divisor-guess.ensures in
    simp to_z-of_z d

pub add_over-requires-in-None-clause-divisor : goal.add_over-requires-in-None-clause-divisor
add_over-requires-in-None-clause-divisor c =
    let f = c.ranges.sum_den in
    let g : FitsSigned w128 c.guess_divisor-divisor.result = omega (arith, ints, c.guess_divisor-divisor.ensures.range) in
    let d = simp to_z-of_z at c.guess_divisor-divisor.ensures in
    simp to_z-of_z d
