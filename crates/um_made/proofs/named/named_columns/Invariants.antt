use Rattle.std.proofs.Common.{◌≡◌, ◌++◌, map}
use Rattle.um_model.specs.Values.{plain_column}
use Rattle.um_made.specs.NamedWords.{named_columns}
use Rattle.um_made.proofs.named.named_columns.Given as goal

abbrev pub invariant-loop-name : goal.invariant-loop-name
invariant-loop-name l = map plain_column l.list.items ++ named_columns l.name-iterator.rest.items l.left.rest.items ≡ named_columns l.fn.columns.items l.fn.left.items
