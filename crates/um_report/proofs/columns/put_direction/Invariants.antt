use Rattle.std.proofs.Common.{◌≡◌, ◌++◌, drop, map}
use Rattle.um_model.specs.Values.{plain_column}
use Rattle.um_text.specs.Texts.{lines_text}
use Rattle.um_report.specs.Reports.{direction_lines}
use Rattle.um_report.proofs.columns.put_direction.Given as goal

-- what is written so far and the lines that are left are the whole
abbrev pub invariant-loop-i : goal.invariant-loop-i
invariant-loop-i l =
    l.text ++ lines_text (direction_lines (map plain_column (drop l.i l.columns)) (drop l.i l.parts))
    ≡ l.fn.text ++ lines_text (direction_lines (map plain_column l.columns) l.parts)
