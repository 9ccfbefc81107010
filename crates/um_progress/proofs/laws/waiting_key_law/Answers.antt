use Rattle.um_progress.proofs.KeyBounds.{waits_key}
use Rattle.um_progress.proofs.laws.waiting_key_law.Goals as goal

pub returns : goal.returns
returns c = waits_key
