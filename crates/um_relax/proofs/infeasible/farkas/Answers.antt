use Rattle.std.proofs.Common.{rules, sym}
use Rattle.um_num.specs.Sizes.{IsSmall}
use Rattle.um_relax.specs.Refusals.{IsFailure}
use Rattle.um_relax.proofs.SmallNumbers.{slacks_small, divisor_small}
use Rattle.std.proofs.Common.{◌≡◌, arith, ap, ◌∙◌, subst, length, map, List, All}
use Rattle.std.specs.Prelude.{ℤ, pos}
use Rattle.um_laws.specs.Rational.{Rational, whole, mul, inverse}
use Rattle.um_relax.specs.Parts.{IsDivisor}
use Rattle.um_duality.specs.WholeMultiples.{prices_from}
use Rattle.um_relax.proofs.FarkasNumbers.{harms_not_zero, some_entry, farkas_are, farkas_below, farkas_large, ratios_long}
use Rattle.um_relax.proofs.NormalPrices.{parts_long}
use Rattle.um_relax.proofs.infeasible.farkas.Goals as goal

pub unreachable-requires : goal.unreachable-requires
unreachable-requires g c =
    let s = g.B.Board.state c.args.board.now in
    some_entry s c.args.row c.in_ok-entries.entries.items (g.met.B.Board.belongs c.args.board.now) c.in_ok-to.ensures.to.within c.in_ok-entries.ensures.value
    (subst (λ (xs : List Rational). All (λ (x : Rational). x ≡ whole (pos 0)) xs) c.as_slice.ensures c.in_default.ensures)

pub ratios-requires : goal.ratios-requires
ratios-requires g c = harms_not_zero c.in_ok-to.to c.in-Some.divisor c.in-Some.ensures.signed.sign

pub normal-requires : goal.normal-requires
normal-requires g c =
    let h = rw c.in-Some-2.is at c.in_ok-whole.ensures in
    let e = parts_long _ c.as_slice-3.result.now c.in-Some-2.whole h in
    let f = ap (length {A = ℤ}) c.as_slice-in-Some-2.ensures in
    let k = ap (length {A = Rational}) c.as_slice-3.ensures in
    let r = ratios_long c.as_slice-2.result.now c.in_ok-ratios.ratios.items c.in-Some.divisor c.in_ok-ratios.ensures.value in
    let m = ap (length {A = Rational}) c.as_slice-2.ensures in
    omega (arith, c.in_ok-entries.ensures.short)

pub returns-in-Some-2-clause-value : goal.returns-in-Some-2-clause-value
returns-in-Some-2-clause-value g c =
    let s = g.B.Board.state c.args.board.now in
    let h = rw c.in-Some-2.is at c.in_ok-whole.ensures in
    let entries = c.in_ok-entries.entries.items in
    let d = c.in-Some.divisor in
    let divisor = subst (λ (xs : List Rational). IsDivisor c.in_ok-to.to xs d) c.as_slice.ensures c.in-Some.ensures in
    farkas_are s c.args.row _ c.in_ok-to.to entries c.as_slice-3.result.now d c.in-Some-2.whole c.in_ok-normal-in-Some-2.field-0.items c.in_ok-to.ensures.to c.in_ok-entries.ensures.value divisor
    (c.as_slice-3.ensures ∙ c.in_ok-ratios.ensures.value ∙ ap (map (λ (x : Rational). mul x (inverse d))) c.as_slice-2.ensures) h (c.in_ok-normal-in-Some-2.ensures ∙ ap (prices_from 0) c.as_slice-in-Some-2.ensures)

pub returns-in-Some-2-clause-small : goal.returns-in-Some-2-clause-small
returns-in-Some-2-clause-small g c =
    let h = rw c.in-Some-2.is at c.in_ok-whole.ensures in
    farkas_below _ c.as_slice-3.result.now c.in-Some-2.whole c.in_ok-normal-in-Some-2.field-0.items (omega arith) h (c.in_ok-normal-in-Some-2.ensures ∙ ap (prices_from 0) c.as_slice-in-Some-2.ensures)

pub returns-clause-refused : goal.returns-clause-refused
returns-clause-refused g c =
    let s = g.B.Board.state c.args.board.now in
    let h = rw c.in-None.is at c.in_ok-whole.ensures in
    let entries = c.in_ok-entries.entries.items in
    let d = c.in-Some.divisor in
    let divisor = subst (λ (xs : List Rational). IsDivisor c.in_ok-to.to xs d) c.as_slice.ensures c.in-Some.ensures in
    farkas_large s c.args.row _ c.in_ok-to.to entries c.as_slice-3.result.now d c.in_ok-to.ensures.to c.in_ok-entries.ensures.value divisor
    (c.as_slice-3.ensures ∙ c.in_ok-ratios.ensures.value ∙ ap (map (λ (x : Rational). mul x (inverse d))) c.as_slice-2.ensures) h

pub returns-in_err-ratios-clause-refused : goal.returns-in_err-ratios-clause-refused
returns-in_err-ratios-clause-refused g c =
    let s = g.B.Board.state c.args.board.now in
    let board = g.met.B.Board.belongs c.args.board.now in
    let row = c.in_ok-to.ensures.to.within in
    let entries = c.in_ok-entries.entries.items in
    let divisor = subst (λ (xs : List Rational). IsDivisor c.in_ok-to.to xs c.in-Some.divisor) c.as_slice.ensures c.in-Some.ensures in
    let here : IsFailure s c.in_err-ratios.field-0.0 = c.in_err-ratios.ensures.refused s
    (λ h. subst (λ (xs : List Rational). All IsSmall xs) (sym c.as_slice-2.ensures) (slacks_small s c.args.row entries board row c.in_ok-entries.ensures.value h))
    (λ h. divisor_small s c.args.row c.in_ok-to.to entries c.in-Some.divisor board row c.in_ok-entries.ensures.value divisor h) in
    search (rules, here)
