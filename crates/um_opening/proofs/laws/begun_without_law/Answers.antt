use Rattle.um_opening.proofs.Begun.{begun-without-law}
use Rattle.um_opening.proofs.laws.begun_without_law.Goals as goal

pub returns : goal.returns
returns c = begun-without-law
