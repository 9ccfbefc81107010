use Rattle.um_opening.proofs.Begun.{begun-costs-law}
use Rattle.um_opening.proofs.laws.begun_costs_law.Goals as goal

pub returns : goal.returns
returns c = begun-costs-law
