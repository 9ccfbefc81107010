use Rattle.um_soundness.proofs.OneSplit.{one-split-law}
use Rattle.um_soundness.proofs.one_split_law.Goals as goal

pub returns : goal.returns
returns c = one-split-law
