use Rattle.std.proofs.Common.{arith}
use Rattle.std.proofs.lemmas.Int.{ints}
use Rattle.um_model.specs.Values.{plain_point, plain_column}
use Rattle.um_model.specs.Feasible.{part, SemiHolds}
use Rattle.um_point.proofs.DeckSizes.{column_at}
use Rattle.um_point.proofs.PlaceLemmas.{decided, image_is}
use Rattle.um_point.proofs.Thresholds.{threshold_size, same_threshold, threshold_test}
use Rattle.um_point.proofs.columns.semi_holds.Goals as goal

pub is_zero_or_from-requires-clause-threshold : goal.is_zero_or_from-requires-clause-threshold
is_zero_or_from-requires-clause-threshold c =
    let column = column_at c.args.deck.now c.columns.result.now c.args.column c.index-columns-column.result c.known.ensures c.columns.ensures c.requires.inside c.index-columns-column.is in
    omega (arith, ints, threshold_size _ (plain_column c.index-columns-column.result) c.in-Semi.threshold column c.in-Semi.is)

pub returns-in-Semi : goal.returns-in-Semi
returns-in-Semi c =
    let column = column_at c.args.deck.now c.columns.result.now c.args.column c.index-columns-column.result c.known.ensures c.columns.ensures c.requires.inside c.index-columns-column.is in
    let same = same_threshold c.in-Semi.threshold (threshold_size _ (plain_column c.index-columns-column.result) c.in-Semi.threshold column c.in-Semi.is) in
    let test = rw (same, c.column_thousandths.ensures.num, c.column_thousandths.ensures.den) at c.is_zero_or_from.ensures in
    decided (SemiHolds (plain_point c.args.point.now)) c.args.deck.now.columns c.args.column (plain_column c.index-columns-column.result) c.is_zero_or_from.result
    c.requires.inside (image_is plain_column c.columns.result.now c.args.deck.now.columns c.args.column c.index-columns-column.result c.columns.ensures c.requires.inside c.index-columns-column.is)
    (threshold_test c.index-columns-column.result.kind c.in-Semi.threshold (part c.args.point.now.parts.items c.args.column) c.args.point.now.den c.is_zero_or_from.result c.in-Semi.is test)
