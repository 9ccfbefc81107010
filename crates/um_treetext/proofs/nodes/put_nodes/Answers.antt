use Rattle.std.proofs.Common.{arith}
use Rattle.um_text.proofs.Puts.{next_put}
use Rattle.um_treetext.proofs.Written.{more_nodes}
use Rattle.um_treetext.proofs.nodes.put_nodes.Goals as goal

pub loop-node-preserved : goal.loop-node-preserved
loop-node-preserved c = next_put _ _ _ _ _ _ c.loop-node.invariant c.in_ok-put_node.ensures (more_nodes c.args.nodes.now c.loop-node.node-index c.node-item.result (omega arith) c.node-item.is)
