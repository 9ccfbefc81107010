use Rattle.std.proofs.Common.{◌≡◌, ◌+◌, ◌*◌, ◌<◌, ◌^◌, pos, refl, unsigned_abs, arith, FitsSigned}
use Rattle.std.specs.Int.{w64, w128}
use Rattle.std.proofs.lemmas.Int.{to_z-of_z, ints}
use Rattle.um_lines.proofs.Guesses.{guess_of_wrapped}
use Rattle.um_lines.proofs.guess.guess_divisor.Goals as goal

pub returns-in-Some : goal.returns-in-Some
returns-in-Some c =
    let s = c.args.factors.now.own in
    let t = c.args.factors.now.other in
    let f = c.ranges.den in
    let f1 : FitsSigned w64 c.args.factors.now.own = omega (arith, ints, c.args.factors.now.own_short) in
    let f2 : FitsSigned w64 c.args.factors.now.other = omega (arith, ints, c.args.factors.now.other_short) in
    let g : FitsSigned w128 (pos c.guess_short.result) = omega (arith, ints, c.guess_short.type_inv) in
    let same : pos c.in-Some.size ≡ c.args.den = simp to_z-of_z at c.in-Some.ensures.value in
    let short : c.args.own_top * unsigned_abs s + c.args.other_top * unsigned_abs t < 2 ^ 63 = simp to_z-of_z at (c.if-are_short.ensures.0 refl) in
    rw c.from.ensures
    (simp to_z-of_z
    (guess_of_wrapped c.args.den c.in-Some.size c.guess_short.result c.args.own_top c.args.other_top s t c.args.own.now c.args.other.now same c.requires.den_in c.guess_short.ensures.positive c.guess_short.ensures.divides c.requires.own_within c.requires.other_within c.requires.other_fits short
    c.guess_short.ensures.greatest c.guess_short.type_inv))
