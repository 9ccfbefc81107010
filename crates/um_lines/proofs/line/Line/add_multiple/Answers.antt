use Rattle.std.proofs.Common.{arith, FitsSigned}
use Rattle.std.specs.Int.{w128}
use Rattle.std.proofs.lemmas.Int.{to_z-of_z, ints}
use Rattle.um_lines.specs.Nums.{nums_of}
use Rattle.um_lines.proofs.LineValues.{sum_held, on_ok}
use Rattle.um_lines.proofs.line.Line.add_multiple.Goals as goal

pub returns-clause-value : goal.returns-clause-value
returns-clause-value c =
    let i = c.self.inside in
    let l = c.line.inside in
    let f1 : FitsSigned w128 i.den = omega (arith, ints, c.self.invariant.line.den_in) in
    let f2 : FitsSigned w128 l.den = omega (arith, ints, c.line.invariant.line.den_in) in
    on_ok c.add_multiple.result (simp to_z-of_z at c.add_multiple.ensures.value)
    (λ value.
    sum_held i.den (nums_of i.nums) c.args.self.now l.den (nums_of l.nums) c.args.line.now c.add_multiple.new.out_den (nums_of c.add_multiple.new.out) c.args.column
    c.self.view_is c.line.view_is c.requires.line_fits c.add_multiple.ensures.long c.requires.column_in
    value)

pub returns-clause-short : goal.returns-clause-short
returns-clause-short c h k =
    let i = c.self.inside in
    let l = c.line.inside in
    let f1 : FitsSigned w128 i.den = omega (arith, ints, c.self.invariant.line.den_in) in
    let f2 : FitsSigned w128 l.den = omega (arith, ints, c.line.invariant.line.den_in) in
    let s = h i.den (nums_of i.nums) c.self.invariant.line.positive c.self.invariant.lowest c.self.view_is in
    let t = k l.den (nums_of l.nums) c.line.invariant.line.positive c.line.invariant.lowest c.line.view_is in
    let short = simp to_z-of_z at c.add_multiple.ensures.short in
    short s.0 s.1 t.0 t.1
