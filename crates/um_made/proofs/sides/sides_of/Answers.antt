use Rattle.std.proofs.Common.{◌≡◌, FitsSigned, w64, rules, ℤ, Option, sym, ap, ◌∙◌, arith}
use Rattle.std.proofs.lemmas.Int.{ints, to_z-of_z}
use Rattle.um_statements.specs.Said.{RowSaid}
use Rattle.um_statements.specs.Made.{low_side, high_side, side_at}
use Rattle.um_made.specs.Views.{row_said}
use Rattle.um_made.specs.RowWords.{range_taken}
use Rattle.um_made.proofs.SideFacts.{side_large, far_large, sides_large, sides_fine, same_low, same_high}
use Rattle.um_made.proofs.sides.sides_of.Goals as goal

pub returns-in-None : goal.returns-in-None
returns-in-None c = side_large (row_said c.args.row.now) c.args.scale c.in-None.ensures

pub returns-in-None-range_of : goal.returns-in-None-range_of
returns-in-None-range_of c = far_large (row_said c.args.row.now) c.args.scale c.in-Some.ensures.fine c.in-None-range_of.ensures

pub returns-then-are_above : goal.returns-then-are_above
returns-then-are_above c =
    let r : RowSaid = row_said c.args.row.now in
    let fits : FitsSigned w64 c.in-Some.side = search rules in
    let said_low = simp to_z-of_z at c.low_side.ensures in
    let said_high = simp to_z-of_z at c.high_side.ensures in
    let low : c.low_side.result ≡ low_side r.kind (side_at r c.args.scale) (range_taken r c.args.scale) = said_low ∙ (ap (λ (z : ℤ). low_side r.kind z c.in-Some-range_of.range) c.in-Some.ensures.is ∙ ap (λ (o : Option ℤ). low_side r.kind (side_at r c.args.scale) o) c.in-Some-range_of.ensures.0) in
    let high : c.high_side.result ≡ high_side r.kind (side_at r c.args.scale) (range_taken r c.args.scale) = said_high ∙ (ap (λ (z : ℤ). high_side r.kind z c.in-Some-range_of.range) c.in-Some.ensures.is ∙ ap (λ (o : Option ℤ). high_side r.kind (side_at r c.args.scale) o) c.in-Some-range_of.ensures.0) in
    sides_large r c.args.scale (rw (low, high) at (sym c.are_above.ensures ∙ c.if-are_above.true))

pub returns : goal.returns
returns c =
    let r : RowSaid = row_said c.args.row.now in
    let fits : FitsSigned w64 c.in-Some.side = search rules in
    let said_low = simp to_z-of_z at c.low_side.ensures in
    let said_high = simp to_z-of_z at c.high_side.ensures in
    let low : c.low_side.result ≡ low_side r.kind (side_at r c.args.scale) (range_taken r c.args.scale) = said_low ∙ (ap (λ (z : ℤ). low_side r.kind z c.in-Some-range_of.range) c.in-Some.ensures.is ∙ ap (λ (o : Option ℤ). low_side r.kind (side_at r c.args.scale) o) c.in-Some-range_of.ensures.0) in
    let high : c.high_side.result ≡ high_side r.kind (side_at r c.args.scale) (range_taken r c.args.scale) = said_high ∙ (ap (λ (z : ℤ). high_side r.kind z c.in-Some-range_of.range) c.in-Some.ensures.is ∙ ap (λ (o : Option ℤ). high_side r.kind (side_at r c.args.scale) o) c.in-Some-range_of.ensures.0) in
    let fine = c.in-Some.ensures.within in (
      sides_fine r c.args.scale c.in-Some.ensures.fine (rw (low, high) at (sym c.are_above.ensures ∙ c.if-are_above.false)),
      record { side = omega (arith, ints, c.in-Some.ensures.is, fine); low = low ∙ same_low r c.args.scale; high = high ∙ same_high r c.args.scale },
    )
