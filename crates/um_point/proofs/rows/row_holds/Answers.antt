use Rattle.um_model.specs.Values.{plain_point}
use Rattle.um_model.specs.Feasible.{RowHolds}
use Rattle.um_point.proofs.PlaceLemmas.{decided, item_is}
use Rattle.um_point.proofs.rows.row_holds.Goals as goal

pub returns : goal.returns
returns c =
    let test = rw (c.row_value.ensures.num, c.requires.sum, c.row_value.ensures.den) at c.is_between.ensures in
    decided (RowHolds c.args.deck.now (plain_point c.args.point.now)) c.args.deck.now.rows c.args.row c.index-rows-row.result c.is_between.result
    c.requires.inside (item_is c.rows.result.now c.args.deck.now.rows c.args.row c.index-rows-row.result c.rows.ensures c.index-rows-row.is) test
