use Rattle.std.proofs.Common.{IsTrue, arith, rules, FitsSigned, w64}
use Rattle.std.specs.Int.{w128}
use Rattle.std.proofs.lemmas.Int.{fits_signed_from_abs}
use Rattle.um_model.specs.Values.{plain_point, plain_column}
use Rattle.um_model.specs.Feasible.{part, SemiHolds}
use Rattle.um_point.proofs.DeckSizes.{column_at}
use Rattle.um_point.proofs.PlaceLemmas.{decided, image_is}
use Rattle.um_point.proofs.Thresholds.{threshold_size, same_threshold}
use Rattle.um_split.proofs.Thresholds.{threshold_read, threshold_rule}
use Rattle.um_split.proofs.columns.semi_holds.Goals as goal

pub is_zero_or_from-requires-clause-threshold : goal.is_zero_or_from-requires-clause-threshold
is_zero_or_from-requires-clause-threshold c =
    let column = column_at c.args.deck.now c.columns.result.now c.args.column c.index-columns-column.result c.known.ensures c.columns.ensures c.requires.inside c.index-columns-column.is in
    let size = threshold_size _ (plain_column c.index-columns-column.result) c.in-Semi.threshold column c.in-Semi.is in
    rw (same_threshold c.in-Semi.threshold size) size

pub returns-in-Semi : goal.returns-in-Semi
returns-in-Semi c =
    let column = column_at c.args.deck.now c.columns.result.now c.args.column c.index-columns-column.result c.known.ensures c.columns.ensures c.requires.inside c.index-columns-column.is in
    let size = threshold_size _ (plain_column c.index-columns-column.result) c.in-Semi.threshold column c.in-Semi.is in
    let fits : FitsSigned w64 c.in-Semi.threshold = fits_signed_from_abs w64 c.in-Semi.threshold (omega (arith, size)) in
    let den_fits : FitsSigned w128 c.args.point.now.den = search rules in
    let part_fits : FitsSigned w128 (part c.args.point.now.parts.items c.args.column) = search rules in
    let test = threshold_read (IsTrue c.is_zero_or_from.result) c.in-Semi.threshold c.args.point.now.den (part c.args.point.now.parts.items c.args.column) fits den_fits part_fits (rw c.as_slice.ensures at c.is_zero_or_from.ensures) in
    decided (SemiHolds (plain_point c.args.point.now)) c.args.deck.now.columns c.args.column (plain_column c.index-columns-column.result) c.is_zero_or_from.result
    c.requires.inside (image_is plain_column c.columns.result.now c.args.deck.now.columns c.args.column c.index-columns-column.result c.columns.ensures c.requires.inside c.index-columns-column.is)
    (threshold_rule (IsTrue c.is_zero_or_from.result) c.index-columns-column.result.kind c.in-Semi.threshold c.args.point.now.den (part c.args.point.now.parts.items c.args.column) c.in-Semi.is test)
