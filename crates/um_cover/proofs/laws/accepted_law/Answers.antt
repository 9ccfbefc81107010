use Rattle.um_cover.proofs.Covering.{accepted-law}
use Rattle.um_cover.proofs.laws.accepted_law.Goals as goal

pub returns : goal.returns
returns c = accepted-law
