use Rattle.um_mps.proofs.LawSteps.{formed-law}
use Rattle.um_mps.proofs.laws.formed_law.Goals as goal

pub returns : goal.returns
returns c = formed-law
