use Rattle.std.proofs.Common.{◌≡◌, ◌++◌, drop, map}
use Rattle.um_model.specs.Values.{plain_column}
use Rattle.um_make.specs.NormalLines.{member_words}
use Rattle.um_make.specs.Printed.{data_text}
use Rattle.um_make.proofs.sets.put_members.Given as goal

-- what is written so far and the lines that are left are the whole
abbrev pub invariant-loop-member : goal.invariant-loop-member
invariant-loop-member l =
    l.text ++ data_text (map (member_words (map plain_column l.columns)) (drop l.member-index l.members))
    ≡ l.fn.text ++ data_text (map (member_words (map plain_column l.columns)) l.members)
