use Rattle.um_model.specs.Rays.{IsFree}
use Rattle.um_model.specs.declared.deck.Row.{Row}
use Rattle.um_point.proofs.PlaceLemmas.{decided, item_is}
use Rattle.um_check.proofs.rays.is_row_free.Goals as goal

pub returns : goal.returns
returns c =
    decided (λ place (x : Row). IsFree x.low x.high c.args.change.now) c.args.deck.now.rows c.args.row c.index-rows-row.result c.is_free.result
    c.requires (item_is c.rows.result.now c.args.deck.now.rows c.args.row c.index-rows-row.result c.rows.ensures c.index-rows-row.is) c.is_free.ensures
