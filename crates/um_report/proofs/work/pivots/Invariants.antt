use Rattle.std.proofs.Common.{◌≡◌, ◌*◌, ◌^◌, ◌≤◌, take, sum_by}
use Rattle.um_model.specs.declared.tree.Node.{Node}
use Rattle.um_report.specs.Reports.{pivots_in}
use Rattle.um_report.proofs.work.pivots.Given as goal

abbrev pub invariant-loop-node : goal.invariant-loop-node
invariant-loop-node l = record {
  so_far : l.sum ≡ sum_by (λ (n : Node). pivots_in n.solved) (take l.node-index l.nodes);
  size : l.sum ≤ l.node-index * 2 ^ 64;
}
