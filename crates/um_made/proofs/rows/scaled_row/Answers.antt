use Rattle.std.proofs.Common.{◌≡◌, ℕ, List, sym, ◌∙◌, ap, subst, arith}
use Rattle.um_num.specs.declared.decimal.Decimal.{Decimal}
use Rattle.um_statements.specs.Said.{RowSaid}
use Rattle.um_statements.specs.Scaled.{least_scale}
use Rattle.um_made.specs.Views.{row_said}
use Rattle.um_made.specs.RowWords.{scale_of, AreSides}
use Rattle.um_made.proofs.RowRules.{scale_parts, row_too_fine, row_numbers_large, row_sides_large, row_fine}
use Rattle.um_made.proofs.rows.scaled_row.Goals as goal

pub returns-then-scale-gt-MOST_SCALE : goal.returns-then-scale-gt-MOST_SCALE
returns-then-scale-gt-MOST_SCALE c =
    let xs : List Decimal = c.args.numbers.now.coefficients.items in
    let ys : List Decimal = c.args.numbers.now.arcs.items in
    let r : RowSaid = row_said c.args.row.now in
    let parts = scale_parts xs ys r in
    let a : c.least_scale.result ≡ least_scale xs = c.least_scale.ensures ∙ ap least_scale c.as_slice-coefficients.ensures in
    let b : c.least_scale-2.result ≡ least_scale ys = c.least_scale-2.ensures ∙ ap least_scale c.as_slice-arcs.ensures in
    let e : c.max-scale.result ≡ scale_of xs ys r = omega (arith, parts, a, b, c.scale_beside.ensures) in
    row_too_fine xs ys r c.max-scale.result e (omega arith)

pub returns-then-are_large : goal.returns-then-are_large
returns-then-are_large c =
    let xs : List Decimal = c.args.numbers.now.coefficients.items in
    let ys : List Decimal = c.args.numbers.now.arcs.items in
    let r : RowSaid = row_said c.args.row.now in
    let parts = scale_parts xs ys r in
    let a : c.least_scale.result ≡ least_scale xs = c.least_scale.ensures ∙ ap least_scale c.as_slice-coefficients.ensures in
    let b : c.least_scale-2.result ≡ least_scale ys = c.least_scale-2.ensures ∙ ap least_scale c.as_slice-arcs.ensures in
    let e : c.max-scale.result ≡ scale_of xs ys r = omega (arith, parts, a, b, c.scale_beside.ensures) in
    row_numbers_large xs ys r c.max-scale.result e (omega arith) (rw (c.as_slice-coefficients.ensures, c.as_slice-arcs.ensures) at (sym c.are_large.ensures ∙ c.if-are_large.true))

pub returns-in-Some : goal.returns-in-Some
returns-in-Some c =
    let xs : List Decimal = c.args.numbers.now.coefficients.items in
    let ys : List Decimal = c.args.numbers.now.arcs.items in
    let r : RowSaid = row_said c.args.row.now in
    let parts = scale_parts xs ys r in
    let a : c.least_scale.result ≡ least_scale xs = c.least_scale.ensures ∙ ap least_scale c.as_slice-coefficients.ensures in
    let b : c.least_scale-2.result ≡ least_scale ys = c.least_scale-2.ensures ∙ ap least_scale c.as_slice-arcs.ensures in
    let e : c.max-scale.result ≡ scale_of xs ys r = omega (arith, parts, a, b, c.scale_beside.ensures) in (
      row_fine xs ys r c.max-scale.result e (omega arith) (rw (c.as_slice-coefficients.ensures, c.as_slice-arcs.ensures) at (sym c.are_large.ensures ∙ c.if-are_large.false)) c.in-Some.ensures.0,
      record { scale_is = e; sides_are = subst (λ (k : ℕ). AreSides r k c.in-Some.sides) e c.in-Some.ensures.1 },
    )

pub returns-in-None : goal.returns-in-None
returns-in-None c =
    let xs : List Decimal = c.args.numbers.now.coefficients.items in
    let ys : List Decimal = c.args.numbers.now.arcs.items in
    let r : RowSaid = row_said c.args.row.now in
    let parts = scale_parts xs ys r in
    let a : c.least_scale.result ≡ least_scale xs = c.least_scale.ensures ∙ ap least_scale c.as_slice-coefficients.ensures in
    let b : c.least_scale-2.result ≡ least_scale ys = c.least_scale-2.ensures ∙ ap least_scale c.as_slice-arcs.ensures in
    let e : c.max-scale.result ≡ scale_of xs ys r = omega (arith, parts, a, b, c.scale_beside.ensures) in
    row_sides_large xs ys r c.max-scale.result e (omega arith) c.in-None.ensures
