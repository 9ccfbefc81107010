use Rattle.std.proofs.Common.{◌≡◌, arith, rules, FitsSigned}
use Rattle.std.specs.Int.{w64}
use Rattle.std.proofs.lemmas.Int.{to_z-of_z, ints}
use Rattle.um_lines.specs.Lines.{whole_at}
use Rattle.um_lines.specs.Turns.{wrapped_at}
use Rattle.um_lines.proofs.Guesses.{first_shared, shared_sum_step, shared_of_all}
use Rattle.um_lines.proofs.guess.guess_short.Goals as goal

pub loop-j-init : goal.loop-j-init
loop-j-init c = first_shared c.args.den (wrapped_at c.args.factors.now.own c.args.factors.now.other c.args.own.now c.args.other.now) c.requires.positive

pub loop-j-preserved : goal.loop-j-preserved
loop-j-preserved c =
    let f1 : FitsSigned w64 c.args.factors.now.own = omega (arith, ints, c.args.factors.now.own_short) in
    let f2 : FitsSigned w64 c.args.factors.now.other = omega (arith, ints, c.args.factors.now.other_short) in
    let g1 : FitsSigned w64 (whole_at c.args.own.now c.loop-j.j) = search rules in
    let g2 : FitsSigned w64 (whole_at c.args.other.now c.loop-j.j) = search rules in
    let g3 : FitsSigned w64 c.wrapped_sum-sum.result = search rules in
    let e : c.wrapped_sum-sum.result ≡ wrapped_at c.args.factors.now.own c.args.factors.now.other c.args.own.now c.args.other.now c.loop-j.j = simp to_z-of_z at c.wrapped_sum-sum.ensures in
    let most = simp to_z-of_z at c.next_guess-guess.ensures.greatest in
    shared_sum_step c.args.den (wrapped_at c.args.factors.now.own c.args.factors.now.other c.args.own.now c.args.other.now) c.loop-j.j c.loop-j.guess.shared c.next_guess-guess.result.shared c.wrapped_sum-sum.result
    c.loop-j.invariant e c.next_guess-guess.ensures.positive c.next_guess-guess.ensures.divides most

pub returns-then-is_sure-clause-greatest : goal.returns-then-is_sure-clause-greatest
returns-then-is_sure-clause-greatest c d hd hk = shared_of_all c.args.den _ c.loop-j.j _ c.loop-j.guess.shared d c.loop-j.auto.j-end c.loop-j.invariant hd hk

pub returns-clause-greatest : goal.returns-clause-greatest
returns-clause-greatest c d hd hk = shared_of_all c.args.den _ c.loop-j.j _ c.loop-j.guess.shared d c.loop-j.auto.j-end c.loop-j.invariant hd hk
