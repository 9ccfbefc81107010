use Rattle.um_turns.proofs.TreeWithin.{box_within}
use Rattle.um_turns.proofs.laws.box_within_law.Goals as goal

pub returns : goal.returns
returns c = box_within
