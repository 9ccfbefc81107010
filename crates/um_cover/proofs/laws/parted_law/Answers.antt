use Rattle.um_cover.proofs.Keeping.{parted-law}
use Rattle.um_cover.proofs.laws.parted_law.Goals as goal

pub returns : goal.returns
returns c = parted-law
