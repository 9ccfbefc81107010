use Rattle.std.proofs.Common.{◌≡◌, length, map}
use Rattle.um_model.specs.AnswerValues.{plain_node}
use Rattle.um_treetext.proofs.NodeSteps.{AreRead}
use Rattle.um_treetext.proofs.reading.read_nodes.Given as goal

abbrev pub invariant-loop-i : goal.invariant-loop-i
invariant-loop-i l = record { count : length l.tree ≡ l.i; read : AreRead l.deck l.count l.i l.initial.lines l.lines (map plain_node l.tree) }
