use Rattle.std.proofs.Common.{◌≡◌, arith, rules, FitsSigned}
use Rattle.std.specs.Int.{w64, w128}
use Rattle.std.proofs.lemmas.Int.{to_z-of_z, ints}
use Rattle.um_lines.specs.Combined.{sum_at}
use Rattle.um_lines.specs.Lines.{whole_at}
use Rattle.um_lines.proofs.Guesses.{first_guess, guess_step, guess_of_all}
use Rattle.um_lines.proofs.guess.guess_long.Goals as goal

pub loop-j-init : goal.loop-j-init
loop-j-init c = let f = c.ranges.den in simp to_z-of_z (first_guess c.args.den (sum_at c.args.factors.now.own c.args.factors.now.other c.args.own.now c.args.other.now) c.requires.positive c.requires.den_in)

pub loop-j-preserved : goal.loop-j-preserved
loop-j-preserved c =
    let f = c.ranges.den in
    let g1 : FitsSigned w64 (whole_at c.args.own.now c.loop-j.j) = search rules in
    let g2 : FitsSigned w64 (whole_at c.args.other.now c.loop-j.j) = search rules in
    let g3 : FitsSigned w128 c.short_combination-sum.result = omega (arith, ints, c.short_combination-sum.ensures.range) in
    let g4 : FitsSigned w128 c.next_long_guess-guess.result.shared = omega (arith, ints, c.next_long_guess-guess.ensures.range) in
    let e : c.short_combination-sum.result ≡ sum_at c.args.factors.now.own c.args.factors.now.other c.args.own.now c.args.other.now c.loop-j.j = simp to_z-of_z at c.short_combination-sum.ensures.value in
    let most = simp to_z-of_z at c.next_long_guess-guess.ensures.greatest in
    let i = simp to_z-of_z at c.loop-j.invariant in
    simp to_z-of_z
    (guess_step c.args.den (sum_at c.args.factors.now.own c.args.factors.now.other c.args.own.now c.args.other.now) c.loop-j.j c.loop-j.guess.shared c.next_long_guess-guess.result.shared c.short_combination-sum.result
    i e c.next_long_guess-guess.ensures.positive c.next_long_guess-guess.ensures.range c.next_long_guess-guess.ensures.divides most)

pub returns-then-is_sure : goal.returns-then-is_sure
returns-then-is_sure c =
    let f = c.ranges.den in
    let g : FitsSigned w128 c.loop-j.guess.shared = omega (arith, ints, c.loop-j.invariant.range) in
    let i = simp to_z-of_z at c.loop-j.invariant in
    simp to_z-of_z (guess_of_all c.args.den _ c.loop-j.j _ c.loop-j.guess.shared c.loop-j.auto.j-end i)

pub returns : goal.returns
returns c =
    let f = c.ranges.den in
    let g : FitsSigned w128 c.loop-j.guess.shared = omega (arith, ints, c.loop-j.invariant.range) in
    let i = simp to_z-of_z at c.loop-j.invariant in
    simp to_z-of_z (guess_of_all c.args.den _ c.loop-j.j _ c.loop-j.guess.shared c.loop-j.auto.j-end i)
