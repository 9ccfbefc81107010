use Rattle.um_duality.proofs.StrongDuality.{strong-duality-law}
use Rattle.um_duality.proofs.laws.strong_duality_law.Goals as goal

pub returns : goal.returns
returns c = strong-duality-law
