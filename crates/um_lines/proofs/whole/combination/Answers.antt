use Rattle.std.proofs.Common.{◌*ℤ◌, ◌+ℤ◌, ℤ, ap, ◌∙◌, FitsSigned, arith}
use Rattle.std.specs.Int.{w128}
use Rattle.std.proofs.lemmas.Int.{to_z-of_z, ints}
use Rattle.um_lines.proofs.Shorts.{never, product_in, sum_in, if_ok_same}
use Rattle.um_lines.proofs.whole.combination.Goals as goal

pub returns-in_err-right-clause-short : goal.returns-in_err-right-clause-short
returns-in_err-right-clause-short c a b f h =
    let f2 = c.ranges.other in
    let f4 : FitsSigned w128 c.args.factors.now.other = omega (arith, ints, c.requires.other_factor) in
    let t = simp to_z-of_z at c.in_err-right.ensures.taken in
    never (t (product_in c.args.other c.args.factors.now.other b h))

pub returns-clause-value : goal.returns-clause-value
returns-clause-value c =
    let f1 = c.ranges.own in
    let f2 = c.ranges.other in
    let f3 : FitsSigned w128 c.args.factors.now.own = omega (arith, ints, c.requires.own_factor) in
    let f4 : FitsSigned w128 c.args.factors.now.other = omega (arith, ints, c.requires.other_factor) in
    let f5 : FitsSigned w128 c.in_ok-left.left = omega (arith, ints, c.in_ok-left.ensures.range) in
    let f6 : FitsSigned w128 c.in_ok-right.right = omega (arith, ints, c.in_ok-right.ensures.range) in
    let l = simp to_z-of_z at c.in_ok-left.ensures.value in
    let r = simp to_z-of_z at c.in_ok-right.ensures.value in
    if_ok_same c.exact_step-3.result _ _ (ap (λ (z : ℤ). z +ℤ c.in_ok-right.right) l ∙ ap (λ (z : ℤ). (c.args.own *ℤ c.args.factors.now.own) +ℤ z) r) (simp to_z-of_z at c.exact_step-3.ensures.value)

pub returns-clause-short : goal.returns-clause-short
returns-clause-short c a b f h =
    let f1 = c.ranges.own in
    let f2 = c.ranges.other in
    let f3 : FitsSigned w128 c.args.factors.now.own = omega (arith, ints, c.requires.own_factor) in
    let f4 : FitsSigned w128 c.args.factors.now.other = omega (arith, ints, c.requires.other_factor) in
    let f5 : FitsSigned w128 c.in_ok-left.left = omega (arith, ints, c.in_ok-left.ensures.range) in
    let f6 : FitsSigned w128 c.in_ok-right.right = omega (arith, ints, c.in_ok-right.ensures.range) in
    let l = simp to_z-of_z at c.in_ok-left.ensures.value in
    let r = simp to_z-of_z at c.in_ok-right.ensures.value in
    let t = simp to_z-of_z at c.exact_step-3.ensures.taken in
    t (rw (l, r) (sum_in c.args.own c.args.factors.now.own c.args.other c.args.factors.now.other a f b h))
