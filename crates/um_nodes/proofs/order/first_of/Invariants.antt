use Rattle.um_nodes.specs.Taking.{IsFirstBelow}
use Rattle.um_nodes.proofs.order.first_of.Given as goal

-- what comes first of the nodes so far
abbrev pub invariant-loop-place : goal.invariant-loop-place
invariant-loop-place l = IsFirstBelow l.nodes l.place l.first
