use Rattle.std.proofs.Common.{arith, ◌∙◌, rules, FitsSigned}
use Rattle.std.specs.Int.{w128}
use Rattle.std.proofs.lemmas.Int.{to_z-of_z, ints}
use Rattle.um_lines.specs.Lines.{whole_at}
use Rattle.um_lines.proofs.Wholes.{range_step, left_step, divided_step, quotient_in}
use Rattle.um_lines.proofs.quotients.divide.Goals as goal

pub part-requires-clause-divides : goal.part-requires-clause-divides
part-requires-clause-divides c =
    let f1 = c.ranges.divisor in
    let r = c.loop-j.invariant.range c.loop-j.j (omega arith) in
    let f2 : FitsSigned w128 (whole_at c.loop-j.nums c.loop-j.j) = omega (arith, ints, r) in
    simp to_z-of_z (rw (c.loop-j.invariant.left c.loop-j.j (omega arith)) (c.requires.multiples c.loop-j.j (omega arith)))

pub loop-j-preserved : goal.loop-j-preserved
loop-j-preserved c =
    let f1 = c.ranges.divisor in
    let r = c.loop-j.invariant.range c.loop-j.j (omega arith) in
    let f2 : FitsSigned w128 (whole_at c.loop-j.nums c.loop-j.j) = omega (arith, ints, r) in
    let f3 : FitsSigned w128 c.part.result = search rules in
    let value = simp to_z-of_z at c.part.ensures.value in
    let here = value ∙ c.loop-j.invariant.left c.loop-j.j (omega arith) in
    let fits = quotient_in _ c.args.divisor c.part.result c.requires.positive value r in
    simp to_z-of_z
    (record {
      range = range_step c.loop-j.nums c.loop-j.j c.part.result c.loop-j.invariant.range (omega arith) fits;
      done = divided_step c.loop-j.nums c.args.nums.now c.loop-j.j c.part.result c.args.divisor (omega arith) (simp to_z-of_z at c.loop-j.invariant.done) here;
      left = left_step c.loop-j.nums c.args.nums.now c.loop-j.j c.part.result c.loop-j.invariant.left;
    })
