use Rattle.std.proofs.Common.{arith, ap, ◌∙◌, length}
use Rattle.std.specs.Prelude.{ℤ}
use Rattle.um_laws.specs.Rational.{Rational}
use Rattle.um_duality.specs.WholeMultiples.{prices_from}
use Rattle.um_relax.proofs.NormalPrices.{parts_long, multipliers_below}
use Rattle.um_relax.proofs.row_multipliers.multipliers.Goals as goal

pub normal-requires : goal.normal-requires
normal-requires g c =
    let h = rw c.in-Some.is at c.in_ok-whole.ensures in
    let e = parts_long _ c.as_slice.result.now c.in-Some.whole h in
    let f = ap (length {A = ℤ}) c.as_slice-in-Some.ensures in
    let k = ap (length {A = Rational}) c.as_slice.ensures in
    omega (arith, c.in_ok-costs.ensures.short)

pub returns-in-Some-clause-small : goal.returns-in-Some-clause-small
returns-in-Some-clause-small g c =
    let h = rw c.in-Some.is at c.in_ok-whole.ensures in
    multipliers_below _ c.as_slice.result.now c.in-Some.whole c.in_ok-normal-in-Some.field-0.items (omega arith) h (c.in_ok-normal-in-Some.ensures ∙ ap (prices_from 0) c.as_slice-in-Some.ensures)
