use Rattle.std.proofs.Common.{◌≡◌, ◌++◌, drop, filter_map}
use Rattle.std.specs.List.{enumerate_from}
use Rattle.um_made.specs.ColumnWords.{entry_of}
use Rattle.um_made.proofs.entries.entries.Given as goal

abbrev pub invariant-loop-number : goal.invariant-loop-number
invariant-loop-number l = l.list.items ++ filter_map (entry_of l.slots) (enumerate_from l.number (drop l.number l.rows)) ≡ filter_map (entry_of l.slots) (enumerate_from 0 l.rows)
