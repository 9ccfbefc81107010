use Rattle.um_turns.proofs.TreeWithin.{semi_lows}
use Rattle.um_turns.proofs.laws.semi_lows_law.Goals as goal

pub returns : goal.returns
returns c = semi_lows
