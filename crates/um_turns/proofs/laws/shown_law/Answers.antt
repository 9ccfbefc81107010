use Rattle.um_turns.proofs.Going.{shown}
use Rattle.um_turns.proofs.laws.shown_law.Goals as goal

pub returns : goal.returns
returns c = shown
