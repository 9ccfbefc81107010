use Rattle.std.proofs.Common.{◌^◌, ℤ, pos, refl, arith}
use Rattle.um_model.specs.Feasible.{part}
use Rattle.um_deck.proofs.BoundedSums.{abs_product}
use Rattle.um_point.specs.SmallPoints.{FitsIn36Bits}
use Rattle.um_point.proofs.Quotients.{product_is}
use Rattle.um_point.proofs.row_sums.scaled_part.Goals as goal

pub returns-clause-value : goal.returns-clause-value
returns-clause-value c =
    let x : ℤ = part c.args.point.now.parts.items c.args.index in
    let small : FitsIn36Bits x = c.requires.parts c.args.index (pos 0) c.requires.inside in
    rw c.as_slice.ensures (product_is c.args.point.now.den x c.args.point.now.den x (2 ^ 36) (2 ^ 36) refl refl (omega (arith, c.requires.den)) (omega (arith, small)) (omega arith) (omega arith) (omega arith))

pub returns-clause-size : goal.returns-clause-size
returns-clause-size c =
    let x : ℤ = part c.args.point.now.parts.items c.args.index in
    let small : FitsIn36Bits x = c.requires.parts c.args.index (pos 0) c.requires.inside in
    rw (c.as_slice.ensures, product_is c.args.point.now.den x c.args.point.now.den x (2 ^ 36) (2 ^ 36) refl refl (omega (arith, c.requires.den)) (omega (arith, small)) (omega arith) (omega arith) (omega arith))
    (abs_product c.args.point.now.den x (2 ^ 36) (2 ^ 36) (omega (arith, c.requires.den)) (omega (arith, small)))
