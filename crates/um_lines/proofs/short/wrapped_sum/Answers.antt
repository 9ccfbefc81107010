use Rattle.std.proofs.Common.{◌<◌, ◌*◌, ◌%◌, arith, ℤ, ◌+ℤ◌, ◌*ℤ◌, of_z, to_z, ap, ◌∙◌}
use Rattle.std.specs.Int.{w64, int_wrap}
use Rattle.std.proofs.lemmas.Int.{wrapping_add-bits, wrapping_mul_is, int_wrap-add_left, int_wrap-add_right}
use Rattle.um_lines.proofs.short.wrapped_sum.Goals as goal

pub returns : goal.returns
returns c =
    let f1 = c.ranges.own in
    let f2 = c.ranges.other in
    let f3 = c.ranges.own_factor in
    let f4 = c.ranges.other_factor in
    let a = c.args.own_factor in
    let b = c.args.other_factor in
    let left : (of_z w64 c.args.own * of_z w64 a % 18446744073709551616) < 18446744073709551616 = omega arith in
    let right : (of_z w64 c.args.other * of_z w64 b % 18446744073709551616) < 18446744073709551616 = omega arith in
    wrapping_add-bits w64 (of_z w64 c.args.own * of_z w64 a % 18446744073709551616) (of_z w64 c.args.other * of_z w64 b % 18446744073709551616) left right
    ∙ ap (λ (z : ℤ). int_wrap w64 (z +ℤ to_z w64 (of_z w64 c.args.other * of_z w64 b % 18446744073709551616))) (wrapping_mul_is w64 c.args.own a f1 f3)
    ∙ ap (λ (z : ℤ). int_wrap w64 (int_wrap w64 (c.args.own *ℤ a) +ℤ z)) (wrapping_mul_is w64 c.args.other b f2 f4)
    ∙ int_wrap-add_left w64 (c.args.own *ℤ a) (int_wrap w64 (c.args.other *ℤ b))
    ∙ int_wrap-add_right w64 (c.args.own *ℤ a) (c.args.other *ℤ b)
