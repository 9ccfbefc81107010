use Rattle.std.proofs.Common.{◌≡◌, ◌++◌, drop, map}
use Rattle.um_make.specs.NormalLines.{entry_number, number_words}
use Rattle.um_make.specs.Printed.{data_text}
use Rattle.um_make.proofs.columns.put_entries.Given as goal

-- what is written so far and the lines that are left are the whole
abbrev pub invariant-loop-entry : goal.invariant-loop-entry
invariant-loop-entry l =
    l.text ++ data_text (map (number_words l.name) (map (entry_number l.rows) (drop l.entry-index l.entries)))
    ≡ l.fn.text ++ data_text (map (number_words l.name) (map (entry_number l.rows) l.entries))
