use Rattle.std.proofs.Common.{map, slice_set, ap, ◌∙◌}
use Rattle.um_model.specs.declared.tree.Node.{Node}
use Rattle.um_model.specs.AnswerValues.{plain_node}
use Rattle.um_tree.proofs.Lists.{map_set}
use Rattle.um_tree.proofs.growing.take_node.Goals as goal

pub returns-clause-left : goal.returns-clause-left
returns-clause-left c = map_set plain_node c.args.nodes.now.items c.args.id c.replace.new.dest ∙ ap (λ (x : Node). slice_set (map plain_node c.args.nodes.now.items) c.args.id (plain_node x)) c.replace.ensures.after
