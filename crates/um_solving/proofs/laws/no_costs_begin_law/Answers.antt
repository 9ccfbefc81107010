use Rattle.um_solving.proofs.Goings.{no-costs-begin-law}
use Rattle.um_solving.proofs.laws.no_costs_begin_law.Goals as goal

pub returns : goal.returns
returns c = no-costs-begin-law
