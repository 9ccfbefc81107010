use Rattle.std.proofs.Common.{◌≡◌, ◌++◌, drop, map}
use Rattle.um_make.specs.NormalLines.{row_words}
use Rattle.um_make.specs.Printed.{data_text}
use Rattle.um_make.proofs.front.put_rows.Given as goal

-- what is written so far and the lines that are left are the whole
abbrev pub invariant-loop-row : goal.invariant-loop-row
invariant-loop-row l = l.text ++ data_text (map row_words (drop l.row-index l.rows)) ≡ l.fn.text ++ data_text (map row_words l.rows)
