use Rattle.um_cover.proofs.Keeping.{improved-law}
use Rattle.um_cover.proofs.laws.improved_law.Goals as goal

pub returns : goal.returns
returns c = improved-law
