use Rattle.std.proofs.Common.{IsNone, rules, FitsSigned}
use Rattle.std.specs.Prelude.{◌↔◌}
use Rattle.std.specs.Int.{w128}
use Rattle.um_model.specs.Values.{plain_point, plain_column}
use Rattle.um_model.specs.Feasible.{part, IntegerHolds, IsMultipleOf}
use Rattle.um_point.proofs.PlaceLemmas.{at_from, at_to, image_is}
use Rattle.um_split.proofs.PassedNumbers.{whole_read}
use Rattle.um_split.proofs.columns.floor_at.Goals as goal

pub returns-in-Integer-clause-whole : goal.returns-in-Integer-clause-whole
returns-in-Integer-clause-whole c =
    let den_fits : FitsSigned w128 c.args.point.now.den = search rules in
    let part_fits : FitsSigned w128 (part c.args.point.now.parts.items c.args.column) = search rules in
    let whole : IsNone c.broken_floor.result ↔ IsMultipleOf c.args.point.now.den (part c.args.point.now.parts.items c.args.column) =
    whole_read (IsNone c.broken_floor.result) c.args.point.now.den (part c.args.point.now.parts.items c.args.column) den_fits part_fits (rw c.as_slice.ensures at c.broken_floor.ensures.whole) in
    let P = IntegerHolds (plain_point c.args.point.now) in
    let is = image_is plain_column c.columns.result.now c.args.deck.now.columns c.args.column c.index-columns-column.result c.columns.ensures c.requires.inside c.index-columns-column.is in (
      λ h. at_from P c.args.deck.now.columns c.args.column (plain_column c.index-columns-column.result) c.requires.inside is (λ _. whole.0 h),
      λ holds. whole.1 (at_to P c.args.deck.now.columns c.args.column (plain_column c.index-columns-column.result) is holds c.in-Integer.is),
    )
