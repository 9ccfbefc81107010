use Rattle.std.proofs.Common.{arith, FitsSigned}
use Rattle.std.specs.Int.{w128}
use Rattle.std.proofs.lemmas.Int.{to_z-of_z, ints}
use Rattle.um_lines.specs.Nums.{nums_of}
use Rattle.um_lines.proofs.HeldSums.{added_slowly}
use Rattle.um_lines.proofs.sums.add_slowly.Goals as goal

pub returns-clause-value : goal.returns-clause-value
returns-clause-value c =
    let f = c.ranges.sum_den in
    let g : FitsSigned w128 c.reduce.result = omega (arith, ints, c.reduce.ensures.line.den_in) in
    let value = simp to_z-of_z at c.reduce.ensures.value in
    simp to_z-of_z
    (added_slowly c.args.factors.now (nums_of c.args.own.now) (nums_of c.args.line.now) c.args.sum_den c.combine_slowly.new.out c.reduce.new.nums c.reduce.result
    c.in_ok-combine_slowly.ensures.value (omega arith) c.reduce.ensures.line c.reduce.ensures.lowest value)
