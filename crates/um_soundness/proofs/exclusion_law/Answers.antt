use Rattle.um_soundness.proofs.Exclusion.{exclusion-law}
use Rattle.um_soundness.proofs.exclusion_law.Goals as goal

pub returns : goal.returns
returns c = exclusion-law
