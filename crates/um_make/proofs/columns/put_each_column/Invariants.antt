use Rattle.std.proofs.Common.{◌≡◌, ◌++◌, drop, map}
use Rattle.std.specs.List.{flat_map}
use Rattle.um_model.specs.Values.{plain_column}
use Rattle.um_make.specs.NormalLines.{column_data}
use Rattle.um_make.specs.Printed.{data_text}
use Rattle.um_make.proofs.columns.put_each_column.Given as goal

-- what is written so far and the lines that are left are the whole
abbrev pub invariant-loop-column : goal.invariant-loop-column
invariant-loop-column l =
    l.text ++ data_text (flat_map (column_data l.deck) (map plain_column (drop l.column-index l.columns)))
    ≡ l.fn.text ++ data_text (flat_map (column_data l.deck) (map plain_column l.columns))
