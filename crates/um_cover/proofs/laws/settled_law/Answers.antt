use Rattle.um_cover.proofs.Keeping.{settled-law}
use Rattle.um_cover.proofs.laws.settled_law.Goals as goal

pub returns : goal.returns
returns c = settled-law
