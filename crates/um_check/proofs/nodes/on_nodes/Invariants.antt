use Rattle.std.proofs.Common.{◌≡◌, ◌≤◌, drop, map}
use Rattle.um_model.specs.AnswerValues.{plain_answer, plain_node}
use Rattle.um_check.proofs.NodeSteps.{IsGoing}
use Rattle.um_check.proofs.nodes.on_nodes.Given as goal

abbrev pub invariant-loop-place : goal.invariant-loop-place
invariant-loop-place l = record {
  going : IsGoing l.fn.walk.deck (plain_answer l.answer) l.walk.boxes l.place (map plain_node (drop l.place l.nodes)) l.least;
  deck : l.walk.deck ≡ l.fn.walk.deck;
  depth : l.walk.depth ≤ l.place;
}
