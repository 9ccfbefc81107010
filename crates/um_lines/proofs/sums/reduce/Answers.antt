use Rattle.std.proofs.Common.{arith, pos, ◌≡◌, length}
use Rattle.std.proofs.lemmas.Int.{ints}
use Rattle.um_lines.proofs.Lowests.{lowest_already, lowest_over}
use Rattle.std.proofs.Common.{rules, FitsSigned}
use Rattle.std.specs.Int.{w128}
use Rattle.std.proofs.lemmas.Int.{to_z-of_z}
use Rattle.um_lines.specs.Lines.{whole_at}
use Rattle.um_lines.proofs.LineNumbers.{divided_is, quotient_up}
use Rattle.um_lines.proofs.sums.reduce.Goals as goal

pub divide-requires-clause-multiples : goal.divide-requires-clause-multiples
divide-requires-clause-multiples c =
    let f : FitsSigned w128 c.common_divisor-shared.result = search rules in
    simp to_z-of_z c.common_divisor-shared.ensures.nums

pub part-requires-clause-divides : goal.part-requires-clause-divides
part-requires-clause-divides c =
    let f1 = c.ranges.den in
    let f : FitsSigned w128 c.common_divisor-shared.result = search rules in
    let d = simp to_z-of_z at c.common_divisor-shared.ensures.den in
    simp to_z-of_z d

pub returns-clause-value : goal.returns-clause-value
returns-clause-value c j p =
    let f1 = c.ranges.den in
    let f2 : FitsSigned w128 c.common_divisor-shared.result = search rules in
    let f3 : FitsSigned w128 c.part.result = search rules in
    let n = simp to_z-of_z at (c.divide.ensures.value j p) in
    let d = simp to_z-of_z at c.part.ensures.value in
    let up = quotient_up c.args.den c.common_divisor-shared.result c.part.result c.common_divisor-shared.ensures.positive d c.requires.positive in
    simp to_z-of_z (divided_is (whole_at c.args.nums.now j) c.args.den (whole_at c.divide.new.nums j) c.part.result c.common_divisor-shared.result c.requires.positive up c.common_divisor-shared.ensures.positive n d)

pub returns-then-shared-eq1-clause-lowest : goal.returns-then-shared-eq1-clause-lowest
returns-then-shared-eq1-clause-lowest c =
    let f1 = c.ranges.den in
    let f2 : FitsSigned w128 c.common_divisor-shared.result = search rules in
    let most = simp to_z-of_z at c.common_divisor-shared.ensures.greatest in
    let one : c.common_divisor-shared.result ≡ pos 1 = omega (arith, ints, c.if-shared-eq1.true) in
    simp to_z-of_z (lowest_already c.args.den c.common_divisor-shared.result c.args.nums.now one most)

pub returns-clause-lowest : goal.returns-clause-lowest
returns-clause-lowest c =
    let f1 = c.ranges.den in
    let f2 : FitsSigned w128 c.common_divisor-shared.result = search rules in
    let f3 : FitsSigned w128 c.part.result = search rules in
    let most = simp to_z-of_z at c.common_divisor-shared.ensures.greatest in
    let n = simp to_z-of_z at c.divide.ensures.value in
    let d = simp to_z-of_z at c.part.ensures.value in
    simp to_z-of_z (lowest_over c.args.den c.part.result c.common_divisor-shared.result (λ j. whole_at c.args.nums.now j) (length c.args.nums.now) c.divide.new.nums c.common_divisor-shared.ensures.positive (omega arith) d n most)
