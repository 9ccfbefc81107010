use Rattle.std.proofs.Common.{◌≡◌, ◌++◌, map, take}
use Rattle.um_model.specs.AnswerValues.{plain_node}
use Rattle.um_text.specs.Texts.{lines_text}
use Rattle.um_treetext.specs.TreeText.{node_words}
use Rattle.um_treetext.proofs.nodes.put_nodes.Given as goal

abbrev pub invariant-loop-node : goal.invariant-loop-node
invariant-loop-node l = l.text ≡ l.initial.text ++ lines_text (map node_words (map plain_node (take l.node-index l.nodes)))
