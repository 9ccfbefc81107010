use Rattle.std.proofs.Common.{arith, rules, FitsSigned, pos, ◌≤ℤ◌}
use Rattle.std.specs.Int.{w128}
use Rattle.std.proofs.lemmas.Int.{ints, to_z-of_z}
use Rattle.um_treetext.proofs.PriceWords.{row_low, row_ok, row_wide}
use Rattle.um_treetext.proofs.reading.nodes.row_number.Goals as goal

pub returns-then-number-lt0 : goal.returns-then-number-lt0
returns-then-number-lt0 c =
    let fits : FitsSigned w128 c.args.number = search rules in
    let below = simp to_z-of_z at c.if-number-lt0.true in
    row_low c.args.number (λ up. omega (arith, ints, up, below))

pub returns-in-Ok : goal.returns-in-Ok
returns-in-Ok c =
    let fits : FitsSigned w128 c.args.number = search rules in
    let is = simp to_z-of_z at c.in-Ok.ensures in
    row_ok c.args.number c.in-Ok.row (omega (arith, ints, is)) (omega (arith, ints, is))

pub returns-in-Err : goal.returns-in-Err
returns-in-Err c =
    let fits : FitsSigned w128 c.args.number = search rules in
    let above = simp to_z-of_z at c.if-number-lt0.false in
    let wide = simp to_z-of_z at c.in-Err.ensures in
    let up : pos 0 ≤ℤ c.args.number = omega (arith, ints, above) in
    row_wide c.args.number up (λ below. wide (up, omega (arith, ints, up, below)))
