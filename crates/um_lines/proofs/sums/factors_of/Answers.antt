use Rattle.um_lines.proofs.Shorts.{quotient_short}
use Rattle.std.proofs.Common.{rules, FitsSigned}
use Rattle.std.specs.Int.{w128}
use Rattle.std.proofs.lemmas.Int.{to_z-of_z}
use Rattle.um_lines.proofs.LineNumbers.{cross_parts}
use Rattle.um_lines.proofs.sums.factors_of.Goals as goal

pub part-requires-clause-divides : goal.part-requires-clause-divides
part-requires-clause-divides c =
    let f1 = c.ranges.shared in
    let f2 = c.ranges.den in
    let d = c.requires.shared_den in
    simp to_z-of_z d

pub part-requires-2-clause-divides : goal.part-requires-2-clause-divides
part-requires-2-clause-divides c =
    let f1 = c.ranges.shared in
    let f2 = c.ranges.entry in
    let d = c.requires.shared_entry in
    simp to_z-of_z d

pub returns-clause-cross : goal.returns-clause-cross
returns-clause-cross c =
    let f1 = c.ranges.entry in
    let f2 = c.ranges.den in
    let f3 = c.ranges.shared in
    let f4 : FitsSigned w128 c.part.result = search rules in
    let f5 : FitsSigned w128 c.part-2.result = search rules in
    let p = simp to_z-of_z at c.part.ensures.value in
    let q = simp to_z-of_z at c.part-2.ensures.value in
    simp to_z-of_z (cross_parts c.part.result c.part-2.result c.args.shared c.args.den c.args.entry p q)

pub returns-clause-own_short : goal.returns-clause-own_short
returns-clause-own_short c h =
    let f2 = c.ranges.den in
    let f3 = c.ranges.shared in
    let f4 : FitsSigned w128 c.part.result = search rules in
    let p = simp to_z-of_z at c.part.ensures.value in
    simp to_z-of_z (quotient_short c.args.den c.args.shared c.part.result c.requires.shared_up p h)

pub returns-clause-other_short : goal.returns-clause-other_short
returns-clause-other_short c h =
    let f1 = c.ranges.entry in
    let f3 = c.ranges.shared in
    let f5 : FitsSigned w128 c.part-2.result = search rules in
    let q = simp to_z-of_z at c.part-2.ensures.value in
    simp to_z-of_z (quotient_short c.args.entry c.args.shared c.part-2.result c.requires.shared_up q h)
