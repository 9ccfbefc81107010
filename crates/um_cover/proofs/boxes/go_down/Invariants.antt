use Rattle.um_cover.proofs.Steps.{IsDown}
use Rattle.um_cover.proofs.boxes.go_down.Given as goal

abbrev pub invariant-down : goal.invariant-down
invariant-down l = IsDown l.fn.node.deck l.steps l.left l.node

abbrev pub decreases-down : goal.decreases-down
decreases-down l = l.left
