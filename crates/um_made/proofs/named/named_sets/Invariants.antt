use Rattle.std.proofs.Common.{◌≡◌, ◌++◌, map}
use Rattle.um_model.specs.Values.{plain_set}
use Rattle.um_made.specs.NamedWords.{named_sets}
use Rattle.um_made.proofs.named.named_sets.Given as goal

abbrev pub invariant-loop-name : goal.invariant-loop-name
invariant-loop-name l = map plain_set l.list.items ++ named_sets l.name-iterator.rest.items l.left.rest.items ≡ named_sets l.fn.sets.items l.fn.left.items
