use Rattle.std.proofs.Common.{◌≡◌, ◌++◌, codes, drop, map}
use Rattle.std.specs.List.{flat_map}
use Rattle.um_make.specs.NormalLines.{number_words, side_numbers}
use Rattle.um_make.specs.Printed.{data_text}
use Rattle.um_make.proofs.sides.put_row_sides.Given as goal

-- what is written so far and the lines that are left are the whole
abbrev pub invariant-loop-row : goal.invariant-loop-row
invariant-loop-row l =
    l.text ++ data_text (map (number_words (codes "RHS")) (flat_map side_numbers (drop l.row-index l.rows)))
    ≡ l.fn.text ++ data_text (map (number_words (codes "RHS")) (flat_map side_numbers l.rows))
