use Rattle.std.proofs.Common.{◌≡◌, pos, inl, inr, ap, arith, rules, FitsSigned, of_z}
use Rattle.std.specs.Int.{w128}
use Rattle.std.proofs.lemmas.Int.{ints, to_z-of_z}
use Rattle.um_split.proofs.columns.is_zero_or_from.Goals as goal

pub returns-else-part-eq0 : goal.returns-else-part-eq0
returns-else-part-eq0 c =
    let product_fits : FitsSigned w128 c.times.result = search rules in
    let value_fits : FitsSigned w128 c.thousandths.result = search rules in
    let nonzero : c.args.part ≡ pos 0 → ⊥ = λ e. c.if-part-eq0.false (ap (of_z w128) e) in
    let product = c.times.ensures in
    let value = c.thousandths.ensures in (
      λ h. inr (grind (arith, ints, to_z-of_z)),
      λ h. elim h [ inl zero ↦ absurd (nonzero zero) | inr le ↦ grind (arith, ints, to_z-of_z) ],
    )
