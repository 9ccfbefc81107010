use Rattle.std.proofs.Common.{◌∙◌, arith, FitsSigned}
use Rattle.std.specs.Int.{w128}
use Rattle.std.proofs.lemmas.Int.{to_z-of_z, ints}
use Rattle.um_lines.specs.Nums.{nums_of}
use Rattle.um_lines.proofs.HeldSums.{length_of_written, nums_of_written, added_as}
use Rattle.um_lines.proofs.sums.add_rows.Goals as goal

pub returns-in_err-den-clause-out : goal.returns-in_err-den-clause-out
returns-in_err-den-clause-out c =
    let out = c.add_both_short.new.out in
    nums_of_written out c.add_slowly.new.out c.add_both_short.ensures.out (omega (arith, out.long.ok.0)) c.in_err-den.ensures.range

pub returns-in_err-den-clause-long : goal.returns-in_err-den-clause-long
returns-in_err-den-clause-long c =
    let out = c.add_both_short.new.out in
    length_of_written out c.add_slowly.new.out (omega (arith, out.long.ok.0)) ∙ c.add_both_short.ensures.long

pub returns-clause-value : goal.returns-clause-value
returns-clause-value c =
    let out = c.add_both_short.new.out in
    let f = c.ranges.sum_den in
    let g : FitsSigned w128 c.in_ok-den.den = omega (arith, ints, c.in_ok-den.ensures.value.den_in) in
    let value = simp to_z-of_z at c.in_ok-den.ensures.value in
    simp to_z-of_z
    (added_as c.args.factors.now (nums_of c.args.own.now) (nums_of c.args.line.now) c.args.sum_den c.in_ok-den.den c.add_slowly.new.out out.long (nums_of c.settle.new.self)
    (omega (arith, out.long.ok.0)) c.settle.ensures.long c.settle.ensures.same value)
