use Rattle.um_opening.proofs.Begun.{begun-law}
use Rattle.um_opening.proofs.laws.begun_law.Goals as goal

pub returns : goal.returns
returns c = begun-law
