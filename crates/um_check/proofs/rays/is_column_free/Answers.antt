use Rattle.um_model.specs.Values.{ColumnValue, plain_column}
use Rattle.um_model.specs.Rays.{IsFree}
use Rattle.um_point.proofs.PlaceLemmas.{decided, image_is}
use Rattle.um_check.proofs.rays.is_column_free.Goals as goal

pub returns : goal.returns
returns c =
    decided (λ place (x : ColumnValue). IsFree x.low x.high c.args.change.now) c.args.deck.now.columns c.args.column (plain_column c.index-columns-column.result) c.is_free.result
    c.requires (image_is plain_column c.columns.result.now c.args.deck.now.columns c.args.column c.index-columns-column.result c.columns.ensures c.requires c.index-columns-column.is) c.is_free.ensures
