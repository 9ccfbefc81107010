use Rattle.std.proofs.Common.{arith, FitsSigned}
use Rattle.std.specs.Int.{w128}
use Rattle.std.proofs.lemmas.Int.{to_z-of_z, ints}
use Rattle.um_lines.proofs.guess.next_long_guess.Goals as goal

pub returns-then-shared-guess-clause-divides : goal.returns-then-shared-guess-clause-divides
returns-then-shared-guess-clause-divides c =
    let f1 : FitsSigned w128 c.args.guess.shared = omega (arith, ints, c.requires.shared_in) in
    let f3 : FitsSigned w128 c.shared_by-shared.result = omega (arith, ints, c.shared_by-shared.ensures.range) in
    let d = simp to_z-of_z at c.shared_by-shared.ensures.den in
    simp to_z-of_z d

pub returns-then-shared-guess-clause-greatest : goal.returns-then-shared-guess-clause-greatest
returns-then-shared-guess-clause-greatest c d hd hn =
    let f1 : FitsSigned w128 c.args.guess.shared = omega (arith, ints, c.requires.shared_in) in
    let f2 = c.ranges.sum in
    let f3 : FitsSigned w128 c.shared_by-shared.result = omega (arith, ints, c.shared_by-shared.ensures.range) in
    let g = simp to_z-of_z at c.shared_by-shared.ensures.greatest in
    simp to_z-of_z (g d hd hn)

pub returns-clause-divides : goal.returns-clause-divides
returns-clause-divides c =
    let f1 : FitsSigned w128 c.args.guess.shared = omega (arith, ints, c.requires.shared_in) in
    let f3 : FitsSigned w128 c.shared_by-shared.result = omega (arith, ints, c.shared_by-shared.ensures.range) in
    let d = simp to_z-of_z at c.shared_by-shared.ensures.den in
    simp to_z-of_z d

pub returns-clause-greatest : goal.returns-clause-greatest
returns-clause-greatest c d hd hn =
    let f1 : FitsSigned w128 c.args.guess.shared = omega (arith, ints, c.requires.shared_in) in
    let f2 = c.ranges.sum in
    let f3 : FitsSigned w128 c.shared_by-shared.result = omega (arith, ints, c.shared_by-shared.ensures.range) in
    let g = simp to_z-of_z at c.shared_by-shared.ensures.greatest in
    simp to_z-of_z (g d hd hn)
