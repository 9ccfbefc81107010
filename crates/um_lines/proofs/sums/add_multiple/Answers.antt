use Rattle.std.proofs.Common.{rules, FitsSigned, arith, ℤ, ◌∙◌, ap, subst, sym}
use Rattle.std.specs.Int.{w128}
use Rattle.std.proofs.lemmas.Int.{to_z-of_z, ints}
use Rattle.um_num.proofs.Steps.{gcd_up, gcd_left, gcd_right}
use Rattle.um_laws.specs.Rational.{add, mul}
use Rattle.um_num.specs.Views.{rational}
use Rattle.um_lines.specs.Lines.{whole_at}
use Rattle.um_lines.specs.Nums.{nums_of}
use Rattle.um_lines.proofs.LineNumbers.{sum_is, product_up}
use Rattle.um_lines.proofs.Lowests.{lowest_over_one}
use Rattle.um_lines.proofs.Shorts.{never, product_in}
use Rattle.um_num.specs.Sizes.{IsShort}
use Rattle.um_lines.proofs.sums.add_multiple.Goals as goal

pub factors_of-factors-requires-clause-shared_up : goal.factors_of-factors-requires-clause-shared_up
factors_of-factors-requires-clause-shared_up c =
    let f2 = c.ranges.line_den in
    let f4 : FitsSigned w128 c.get-entry.result = omega (arith, ints, c.get-entry.ensures.range) in
    let f5 : FitsSigned w128 c.gcd-shared.result = search rules in
    let e = simp to_z-of_z at c.gcd-shared.ensures.value in
    simp to_z-of_z (gcd_up c.get-entry.result c.args.line_den c.gcd-shared.result e c.requires.line.positive)

pub factors_of-factors-requires-clause-shared_entry : goal.factors_of-factors-requires-clause-shared_entry
factors_of-factors-requires-clause-shared_entry c =
    let f2 = c.ranges.line_den in
    let f4 : FitsSigned w128 c.get-entry.result = omega (arith, ints, c.get-entry.ensures.range) in
    let f5 : FitsSigned w128 c.gcd-shared.result = search rules in
    let e = simp to_z-of_z at c.gcd-shared.ensures.value in
    simp to_z-of_z (gcd_left c.get-entry.result c.args.line_den c.gcd-shared.result e)

pub factors_of-factors-requires-clause-shared_den : goal.factors_of-factors-requires-clause-shared_den
factors_of-factors-requires-clause-shared_den c =
    let f2 = c.ranges.line_den in
    let f4 : FitsSigned w128 c.get-entry.result = omega (arith, ints, c.get-entry.ensures.range) in
    let f5 : FitsSigned w128 c.gcd-shared.result = search rules in
    let e = simp to_z-of_z at c.gcd-shared.ensures.value in
    simp to_z-of_z (gcd_right c.get-entry.result c.args.line_den c.gcd-shared.result e)

pub add_rows-requires-clause-positive : goal.add_rows-requires-clause-positive
add_rows-requires-clause-positive c =
    let f1 = c.ranges.den in
    let f2 : FitsSigned w128 c.factors_of-factors.result.own = omega (arith, ints, c.factors_of-factors.ensures.own_in) in
    let f5 : FitsSigned w128 c.in_ok-sum_den.sum_den = omega (arith, ints, c.in_ok-sum_den.ensures.range) in
    let e = simp to_z-of_z at c.in_ok-sum_den.ensures.value in
    simp to_z-of_z (product_up c.args.den c.factors_of-factors.result.own c.in_ok-sum_den.sum_den c.requires.own.positive c.factors_of-factors.ensures.positive e)

pub returns-clause-value : goal.returns-clause-value
returns-clause-value c j p =
    let f1 = c.ranges.den in
    let f2 = c.ranges.line_den in
    let f3 : FitsSigned w128 c.factors_of-factors.result.own = omega (arith, ints, c.factors_of-factors.ensures.own_in) in
    let f4 : FitsSigned w128 c.get-entry.result = omega (arith, ints, c.get-entry.ensures.range) in
    let f5 : FitsSigned w128 c.in_ok-sum_den.sum_den = omega (arith, ints, c.in_ok-sum_den.ensures.range) in
    let f6 : FitsSigned w128 c.in_ok-out_den.field-0 = omega (arith, ints, c.in_ok-out_den.ensures.value.den_in) in
    let den_is = simp to_z-of_z at c.in_ok-sum_den.ensures.value in
    let cross = simp to_z-of_z at c.factors_of-factors.ensures.cross in
    let v = simp to_z-of_z at (c.in_ok-out_den.ensures.value.value j p) in
    simp to_z-of_z
    (v
    ∙ sum_is (whole_at (nums_of c.args.own.now) j) c.get-entry.result (whole_at (nums_of c.args.line.now) j) c.factors_of-factors.result.own c.factors_of-factors.result.other c.args.den c.args.line_den c.in_ok-sum_den.sum_den c.requires.own.positive c.requires.line.positive c.factors_of-factors.ensures.positive cross den_is
    ∙ ap (λ (z : ℤ). add (rational (whole_at (nums_of c.args.own.now) j) c.args.den) (mul (rational z c.args.den) (rational (whole_at (nums_of c.args.line.now) j) c.args.line_den))) c.get-entry.ensures.value)

pub returns-in_err-sum_den-clause-lowest : goal.returns-in_err-sum_den-clause-lowest
returns-in_err-sum_den-clause-lowest c = lowest_over_one (nums_of c.args.out.now)

pub returns-in_err-out_den-clause-lowest : goal.returns-in_err-out_den-clause-lowest
returns-in_err-out_den-clause-lowest c = lowest_over_one (nums_of c.add_rows.new.out)

pub returns-clause-lowest : goal.returns-clause-lowest
returns-clause-lowest c =
    let f6 : FitsSigned w128 c.in_ok-out_den.field-0 = omega (arith, ints, c.in_ok-out_den.ensures.value.den_in) in
    simp to_z-of_z c.in_ok-out_den.ensures.value.lowest

pub returns-in_err-sum_den-clause-short : goal.returns-in_err-sum_den-clause-short
returns-in_err-sum_den-clause-short c hd ho hl hx =
    let f1 = c.ranges.den in
    let f2 = c.ranges.line_den in
    let f3 : FitsSigned w128 c.factors_of-factors.result.own = omega (arith, ints, c.factors_of-factors.ensures.own_in) in
    let own = simp to_z-of_z at c.factors_of-factors.ensures.own_short in
    let t = simp to_z-of_z at c.in_err-sum_den.ensures.taken in
    never (t (product_in c.args.den c.factors_of-factors.result.own hd (own hl)))

pub returns-in_err-out_den-clause-short : goal.returns-in_err-out_den-clause-short
returns-in_err-out_den-clause-short c hd ho hl hx =
    let f2 = c.ranges.line_den in
    let f4 : FitsSigned w128 c.get-entry.result = omega (arith, ints, c.get-entry.ensures.range) in
    let own = simp to_z-of_z at c.factors_of-factors.ensures.own_short in
    let other = simp to_z-of_z at c.factors_of-factors.ensures.other_short in
    let entry : IsShort c.get-entry.result = subst IsShort (sym c.get-entry.ensures.value) (ho c.args.column c.requires.column_in) in
    never (c.in_err-out_den.ensures.short ho hx (own hl) (other entry))
