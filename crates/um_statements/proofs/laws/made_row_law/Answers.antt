use Rattle.um_statements.proofs.MadeRows.{made-row-law}
use Rattle.um_statements.proofs.laws.made_row_law.Goals as goal

pub returns : goal.returns
returns c = made-row-law
