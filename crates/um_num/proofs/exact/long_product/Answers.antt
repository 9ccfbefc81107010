use Rattle.std.proofs.Common.{◌≡◌, ◌≤◌, ◌^◌, ◌*ℤ◌, unsigned_abs, FitsSigned, arith}
use Rattle.std.specs.Int.{w128}
use Rattle.std.proofs.lemmas.Int.{ints, to_z-of_z}
use Rattle.um_num.proofs.Quotients.{product_size}
use Rattle.um_num.proofs.exact.long_product.Goals as goal

pub overflow_mul-result : goal.overflow_mul-result
overflow_mul-result c =
    let fx = c.ranges.x in
    let fy = c.ranges.y in
    let ex : c.from.result ≡ c.args.x = simp to_z-of_z at c.from.ensures in
    let ey : c.from-2.result ≡ c.args.y = simp to_z-of_z at c.from-2.ensures in
    let gx : FitsSigned w128 c.args.x = omega (arith, ints, fx) in
    let gy : FitsSigned w128 c.args.y = omega (arith, ints, fy) in
    let h : unsigned_abs c.args.x ≤ 2 ^ 63 = omega (arith, ints, fx) in
    let k : unsigned_abs c.args.y ≤ 2 ^ 63 = omega (arith, ints, fy) in
    let p = product_size c.args.x c.args.y (2 ^ 63) h in
    let fits : FitsSigned w128 (c.args.x *ℤ c.args.y) = omega (arith, ints, p, k) in
    rw (ex, ey) (simp to_z-of_z fits)

pub returns-clause-value : goal.returns-clause-value
returns-clause-value c =
    let fx = c.ranges.x in
    let fy = c.ranges.y in
    let ex : c.from.result ≡ c.args.x = simp to_z-of_z at c.from.ensures in
    let ey : c.from-2.result ≡ c.args.y = simp to_z-of_z at c.from-2.ensures in
    let gx : FitsSigned w128 c.args.x = omega (arith, ints, fx) in
    let gy : FitsSigned w128 c.args.y = omega (arith, ints, fy) in
    let h : unsigned_abs c.args.x ≤ 2 ^ 63 = omega (arith, ints, fx) in
    let k : unsigned_abs c.args.y ≤ 2 ^ 63 = omega (arith, ints, fy) in
    let p = product_size c.args.x c.args.y (2 ^ 63) h in
    let fits : FitsSigned w128 (c.args.x *ℤ c.args.y) = omega (arith, ints, p, k) in
    rw (ex, ey) (simp to_z-of_z)

pub returns-clause-size : goal.returns-clause-size
returns-clause-size c =
    let fx = c.ranges.x in
    let fy = c.ranges.y in
    let ex : c.from.result ≡ c.args.x = simp to_z-of_z at c.from.ensures in
    let ey : c.from-2.result ≡ c.args.y = simp to_z-of_z at c.from-2.ensures in
    let gx : FitsSigned w128 c.args.x = omega (arith, ints, fx) in
    let gy : FitsSigned w128 c.args.y = omega (arith, ints, fy) in
    let h : unsigned_abs c.args.x ≤ 2 ^ 63 = omega (arith, ints, fx) in
    let k : unsigned_abs c.args.y ≤ 2 ^ 63 = omega (arith, ints, fy) in
    let p = product_size c.args.x c.args.y (2 ^ 63) h in
    let fits : FitsSigned w128 (c.args.x *ℤ c.args.y) = omega (arith, ints, p, k) in
    rw (ex, ey) (simp to_z-of_z p)
