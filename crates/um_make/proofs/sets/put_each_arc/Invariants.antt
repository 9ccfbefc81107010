use Rattle.std.proofs.Common.{◌≡◌, ◌++◌, drop, map}
use Rattle.um_make.specs.NormalLines.{arc_words}
use Rattle.um_make.specs.Printed.{data_text}
use Rattle.um_make.proofs.sets.put_each_arc.Given as goal

-- what is written so far and the lines that are left are the whole
abbrev pub invariant-loop-arc : goal.invariant-loop-arc
invariant-loop-arc l =
    l.text ++ data_text (map (arc_words l.deck) (drop l.arc-index l.arcs))
    ≡ l.fn.text ++ data_text (map (arc_words l.deck) l.arcs)
