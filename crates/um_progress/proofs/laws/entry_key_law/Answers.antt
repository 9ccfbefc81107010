use Rattle.um_progress.proofs.KeyBounds.{entry_key}
use Rattle.um_progress.proofs.laws.entry_key_law.Goals as goal

pub returns : goal.returns
returns c = entry_key
