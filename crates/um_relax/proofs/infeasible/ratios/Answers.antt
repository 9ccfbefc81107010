use Rattle.std.proofs.Common.{rules, arith, sym, subst, Result, IfErr}
use Rattle.um_laws.specs.Rational.{Rational}
use Rattle.um_num.specs.declared.exact.Wide.{Wide}
use Rattle.um_lp.specs.Refusals.{IsRefusedAt}
use Rattle.um_num.specs.Sizes.{IsSmall}
use Rattle.um_lp.proofs.RefusedReads.{refused_at, quotient_fits}
use Rattle.um_relax.proofs.infeasible.ratios.Goals as goal

pub returns-in_err-ratio-clause-refused : goal.returns-in_err-ratio-clause-refused
returns-in_err-ratio-clause-refused c s he hd =
    let refused = refused_at s c.div.result c.div.ensures.refused
    (λ h. c.div.ensures.taken (quotient_fits c.entry-item.result c.args.divisor.now
    (subst IsSmall (sym c.entry-item.is) (he h c.loop-entry.entry-index c.entry-item.result (omega arith))) (hd h))) in
    let here : IsRefusedAt s c.in_err-ratio.field-0.0 = subst (λ (r : Result Rational Wide). IfErr r (IsRefusedAt s)) c.in_err-ratio.was refused in
    search (rules, here)
