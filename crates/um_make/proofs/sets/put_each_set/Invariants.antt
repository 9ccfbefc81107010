use Rattle.std.proofs.Common.{◌≡◌, ◌++◌, drop, map}
use Rattle.std.specs.List.{flat_map}
use Rattle.um_model.specs.Values.{plain_column, plain_set}
use Rattle.um_make.specs.NormalLines.{set_data}
use Rattle.um_make.specs.Printed.{data_text}
use Rattle.um_make.proofs.sets.put_each_set.Given as goal

-- what is written so far and the lines that are left are the whole
abbrev pub invariant-loop-set : goal.invariant-loop-set
invariant-loop-set l =
    l.text ++ data_text (flat_map (set_data (map plain_column l.columns)) (map plain_set (drop l.set-index l.sets)))
    ≡ l.fn.text ++ data_text (flat_map (set_data (map plain_column l.columns)) (map plain_set l.sets))
