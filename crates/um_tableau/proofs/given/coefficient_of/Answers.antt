use Rattle.std.proofs.Common.{sym, pos, arith, FitsSigned, slice_index_or}
use Rattle.std.specs.Int.{w128}
use Rattle.std.proofs.lemmas.Int.{to_z-of_z, ints}
use Rattle.um_tableau.proofs.Coefficients.{coefficient_none, coefficient_found}
use Rattle.um_tableau.proofs.given.coefficient_of.Goals as goal

pub returns-then-term-row-clause-value : goal.returns-then-term-row-clause-value
returns-then-term-row-clause-value c =
    let i = c.loop-term.term-index in
    let r = c.requires.range i (record { row = 0; value = pos 0 }) (omega arith) in
    let f : FitsSigned w128 (slice_index_or c.args.terms.now i (record { row = 0; value = pos 0 })).value = omega (arith, ints, r) in
    simp to_z-of_z (sym (coefficient_found c.args.terms.now c.args.row i _ c.requires.rise (omega arith) c.if-term-row.true))

pub returns-clause-value : goal.returns-clause-value
returns-clause-value c = sym (coefficient_none c.args.terms.now c.args.row (λ k d l. c.loop-term.invariant k d (omega arith)))
