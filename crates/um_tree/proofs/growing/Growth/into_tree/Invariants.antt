use Rattle.std.specs.Prelude.{map}
use Rattle.um_model.specs.AnswerValues.{plain_node}
use Rattle.um_tree.proofs.Telling.{IsTelling}
use Rattle.um_tree.proofs.growing.Growth.into_tree.Given as goal

abbrev pub invariant-loop-place : goal.invariant-loop-place
invariant-loop-place l = IsTelling l.fn.self l.nexts (map plain_node l.nodes.items) (map plain_node l.tree) l.next l._place
