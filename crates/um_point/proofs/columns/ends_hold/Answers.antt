use Rattle.um_model.specs.Values.{plain_point, plain_column}
use Rattle.um_model.specs.Feasible.{EndsHold}
use Rattle.um_point.proofs.DeckSizes.{column_at, end_within}
use Rattle.um_point.proofs.PlaceLemmas.{decided, image_is}
use Rattle.um_point.proofs.columns.ends_hold.Goals as goal

pub is_between-requires-clause-low : goal.is_between-requires-clause-low
is_between-requires-clause-low c =
    end_within c.index-columns-column.result.low (column_at c.args.deck.now c.columns.result.now c.args.column c.index-columns-column.result c.known.ensures c.columns.ensures c.requires.inside c.index-columns-column.is).low

pub is_between-requires-clause-high : goal.is_between-requires-clause-high
is_between-requires-clause-high c =
    end_within c.index-columns-column.result.high (column_at c.args.deck.now c.columns.result.now c.args.column c.index-columns-column.result c.known.ensures c.columns.ensures c.requires.inside c.index-columns-column.is).high

pub returns : goal.returns
returns c =
    let test = rw (c.column_thousandths.ensures.num, c.column_thousandths.ensures.den) at c.is_between.ensures in
    decided (EndsHold (plain_point c.args.point.now)) c.args.deck.now.columns c.args.column (plain_column c.index-columns-column.result) c.is_between.result
    c.requires.inside (image_is plain_column c.columns.result.now c.args.deck.now.columns c.args.column c.index-columns-column.result c.columns.ensures c.requires.inside c.index-columns-column.is) test
