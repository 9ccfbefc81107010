use Rattle.um_turns.proofs.Going.{goes_on}
use Rattle.um_turns.proofs.laws.going_on_law.Goals as goal

pub returns : goal.returns
returns c = goes_on
