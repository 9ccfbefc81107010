use Rattle.std.proofs.Common.{refl, sym, arith, ap, rules, pos, unsigned_abs, ◌∙◌, ◌^◌, ◌<◌}
use Rattle.std.proofs.lemmas.Bool.{eq-eqb, ne_eqb}
use Rattle.um_treetext.specs.FrontLines.{count_said}
use Rattle.um_treetext.proofs.Takes.{fails}
use Rattle.um_treetext.proofs.NumberWords.{as_count, of_count, natural_err, natural_ok, zero_natural}
use Rattle.um_treetext.proofs.reading.front.check_count.Goals as goal

pub returns-in_err-from_zero : goal.returns-in_err-from_zero
unfolding count_said
returns-in_err-from_zero c = fails _ c.in_err-from_zero.field-0.0 _ _ c.from_residual.ensures.1 (rw (natural_err (2 ^ 127) _ _ (omega arith) c.in_err-from_zero.ensures.value) refl)

pub returns-then-branch-count : goal.returns-then-branch-count
unfolding count_said
returns-then-branch-count c =
    let z = c.in_ok-from_zero.field-0 in
    let small : c.args.count < 2 ^ 64 = search rules in
    let is = as_count z c.args.count c.in_ok-from_zero.ensures.range small c.if-branch-count.true in
    rw (natural_ok (2 ^ 127) _ z c.args.count c.in_ok-from_zero.ensures.value is (omega (arith, small)), eq-eqb c.args.count c.args.count refl) refl

pub returns-else-branch-count : goal.returns-else-branch-count
unfolding count_said
returns-else-branch-count c =
    let z = c.in_ok-from_zero.field-0 in
    let small : c.args.count < 2 ^ 64 = search rules in
    let n = zero_natural _ z c.in_ok-from_zero.ensures.value c.in_ok-from_zero.ensures.range in
    rw (n.0, ne_eqb (unsigned_abs z) c.args.count (λ e. c.if-branch-count.false (of_count z c.args.count small (n.1 ∙ ap pos e)))) refl
