use Rattle.um_cover.proofs.Steps.{IsUp}
use Rattle.um_cover.proofs.boxes.way_up.Given as goal

abbrev pub invariant-up : goal.invariant-up
invariant-up l = IsUp l.growth l.fn.id l.at l.steps.items

abbrev pub decreases-up : goal.decreases-up
decreases-up l = l.at
