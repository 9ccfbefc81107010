use Rattle.um_text.proofs.Puts.{on_ok}
use Rattle.um_treetext.proofs.Written.{node_line_put}
use Rattle.um_treetext.proofs.nodes.put_node.Goals as goal

pub returns : goal.returns
returns c = on_ok c.end_line.result c.end_line.ensures.ok (λ e. node_line_put _ _ _ _ c.args.node.now.solved _ c.in_ok-put_solved.ensures c.in_ok-put_what.ensures e)
