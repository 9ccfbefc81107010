use Rattle.um_soundness.proofs.BrokenParts.{broken-law}
use Rattle.um_soundness.proofs.broken_law.Goals as goal

pub returns : goal.returns
returns c = broken-law
