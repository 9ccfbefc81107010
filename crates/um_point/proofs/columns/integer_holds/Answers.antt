use Rattle.std.proofs.Common.{IsTrue}
use Rattle.std.specs.Prelude.{◌↔◌}
use Rattle.um_model.specs.Values.{plain_point, plain_column}
use Rattle.um_model.specs.Feasible.{part, IntegerHolds, IsMultipleOf}
use Rattle.um_point.proofs.PlaceLemmas.{decided, image_is}
use Rattle.um_point.proofs.columns.integer_holds.Goals as goal

pub returns-in-Integer : goal.returns-in-Integer
returns-in-Integer c =
    let whole : IsTrue c.is_whole.result ↔ IsMultipleOf c.args.point.now.den (part c.args.point.now.parts.items c.args.column) = rw (c.column_value.ensures.num, c.column_value.ensures.den) at c.is_whole.ensures in
    decided (IntegerHolds (plain_point c.args.point.now)) c.args.deck.now.columns c.args.column (plain_column c.index-columns-column.result) c.is_whole.result
    c.requires.inside (image_is plain_column c.columns.result.now c.args.deck.now.columns c.args.column c.index-columns-column.result c.columns.ensures c.requires.inside c.index-columns-column.is)
    (λ h _. whole.0 h, λ holds. whole.1 (holds c.in-Integer.is))
