use Rattle.std.proofs.Common.{refl, ◌<◌, ◌+◌, ◌*◌, ◌^◌, unsigned_abs, arith, FitsSigned, rules}
use Rattle.std.specs.Int.{w64}
use Rattle.std.proofs.lemmas.Int.{to_z-of_z}
use Rattle.std.proofs.lemmas.Option.{IfSome_then}
use Rattle.um_lines.specs.Turns.{IsTurns}
use Rattle.um_lines.proofs.ShortSums.{are_summed}
use Rattle.um_lines.proofs.wide.combine_sums.Goals as goal

pub returns-then-are_sums_short-clause-value : goal.returns-then-are_sums_short-clause-value
returns-then-are_sums_short-clause-value c =
    let f1 : FitsSigned w64 c.args.factors.now.own = search rules in
    let f2 : FitsSigned w64 c.args.factors.now.other = search rules in
    let is : IsTurns c.args.factors.now.own c.args.factors.now.other c.args.divisor c.in_ok-turns.turns = simp to_z-of_z at c.in_ok-turns.ensures in
    let short : (c.args.own_top * unsigned_abs c.args.factors.now.own + c.args.other_top * unsigned_abs c.args.factors.now.other) < 2 ^ 63 = simp to_z-of_z at (c.if-are_sums_short.ensures.0 refl) in
    IfSome_then c.top_over.result c.top_over.ensures.value
    (λ top over j l. (are_summed c.in_ok-turns.turns c.args.factors.now.own c.args.factors.now.other c.args.divisor c.combine_turned-sizes.result top c.args.own_top c.args.other_top c.args.own.now c.args.other.now c.combine_turned-sizes.new.out
    is over c.requires.own_within c.requires.other_within c.requires.other_fits short c.combine_turned-sizes.ensures.value c.combine_turned-sizes.ensures.sizes c.combine_turned-sizes.ensures.even j l).0)

pub returns-then-are_sums_short-clause-within : goal.returns-then-are_sums_short-clause-within
returns-then-are_sums_short-clause-within c =
    let f1 : FitsSigned w64 c.args.factors.now.own = search rules in
    let f2 : FitsSigned w64 c.args.factors.now.other = search rules in
    let is : IsTurns c.args.factors.now.own c.args.factors.now.other c.args.divisor c.in_ok-turns.turns = simp to_z-of_z at c.in_ok-turns.ensures in
    let short : (c.args.own_top * unsigned_abs c.args.factors.now.own + c.args.other_top * unsigned_abs c.args.factors.now.other) < 2 ^ 63 = simp to_z-of_z at (c.if-are_sums_short.ensures.0 refl) in
    IfSome_then c.top_over.result c.top_over.ensures.value
    (λ top over j l. (are_summed c.in_ok-turns.turns c.args.factors.now.own c.args.factors.now.other c.args.divisor c.combine_turned-sizes.result top c.args.own_top c.args.other_top c.args.own.now c.args.other.now c.combine_turned-sizes.new.out
    is over c.requires.own_within c.requires.other_within c.requires.other_fits short c.combine_turned-sizes.ensures.value c.combine_turned-sizes.ensures.sizes c.combine_turned-sizes.ensures.even j (omega arith)).1)
