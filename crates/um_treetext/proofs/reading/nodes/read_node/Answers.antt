use Rattle.std.proofs.Common.{refl, inr}
use Rattle.um_treetext.specs.NodeLines.{node_line}
use Rattle.um_treetext.proofs.WantOfMemory.{hands_on, first_faults}
use Rattle.um_treetext.proofs.reading.nodes.read_node.Goals as goal

pub returns-in_err-solved : goal.returns-in_err-solved
unfolding node_line
returns-in_err-solved c = hands_on _ c.in_err-solved.field-0.0 _ _ c.from_residual.ensures.1 (inr (rw c.in_err-solved.ensures refl))

pub returns-in_err-what : goal.returns-in_err-what
unfolding node_line
returns-in_err-what c = hands_on _ c.in_err-what.field-0.0 _ _ c.from_residual-in_err-what.ensures.1 (rw c.in_ok-solved.ensures (first_faults _ _ _ c.in_err-what.ensures))

pub returns-in_err-end : goal.returns-in_err-end
unfolding node_line
returns-in_err-end c = hands_on _ c.in_err-end.field-0.0 _ _ c.from_residual-in_err-end.ensures.1 (inr (rw (c.in_ok-solved.ensures, c.in_ok-what.ensures, c.in_err-end.ensures) refl))

pub returns : goal.returns
unfolding node_line
returns c = rw (c.in_ok-solved.ensures, c.in_ok-what.ensures, c.in_ok-end.ensures) refl
