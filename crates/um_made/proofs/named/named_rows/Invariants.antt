use Rattle.std.proofs.Common.{◌≡◌, ◌++◌, drop}
use Rattle.um_made.specs.NamedWords.{named_rows}
use Rattle.um_made.proofs.named.named_rows.Given as goal

abbrev pub invariant-loop-name : goal.invariant-loop-name
invariant-loop-name l = l.list.items ++ named_rows l.name-iterator.rest.items (drop l.number l.left) ≡ named_rows l.fn.rows.items l.left
