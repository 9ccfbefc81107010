use Rattle.std.proofs.Common.{◌≡◌, ◌∙◌, ap, inl, inr, pos, rules, refl, subst, sym, FitsSigned, ℤ}
use Rattle.std.specs.Int.{w128}
use Rattle.std.proofs.lemmas.Int.{to_z-of_z}
use Rattle.std.specs.Ordering.{int_cmp}
use Rattle.um_laws.specs.Rational.{Rational}
use Rattle.um_lp.specs.DualSteps.{Harms}
use Rattle.um_relax.proofs.FarkasNumbers.{neg_harms}
use Rattle.um_relax.proofs.infeasible.signed.Goals as goal

pub returns-then-harms : goal.returns-then-harms
returns-then-harms c =
    let fits : FitsSigned w128 c.num.result = search rules in
    let order : c.cmp.result ≡ int_cmp c.args.entry.now.num (pos 0) = simp to_z-of_z at c.cmp.ensures ∙ ap (λ (n : ℤ). int_cmp n (pos 0)) c.num.ensures.value in
    record { same = inl refl; sign = (c.harms.ensures c.args.entry.now order).0 c.if-harms.true }

pub returns-else-harms : goal.returns-else-harms
returns-else-harms c =
    let fits : FitsSigned w128 c.num.result = search rules in
    let order : c.cmp.result ≡ int_cmp c.args.entry.now.num (pos 0) = simp to_z-of_z at c.cmp.ensures ∙ ap (λ (n : ℤ). int_cmp n (pos 0)) c.num.ensures.value in
    record {
      same = inr c.neg.ensures;
      sign = subst (λ (x : Rational). Harms c.args.to x) (sym c.neg.ensures) (neg_harms c.args.to c.args.entry.now c.requires.side c.requires.not_zero (λ h. let e = (c.harms.ensures c.args.entry.now order).1 h in cc));
    }
