use Rattle.um_round.proofs.WordLines.{normal-lines-law}
use Rattle.um_round.proofs.laws.normal_lines_law.Goals as goal

pub returns : goal.returns
returns c = normal-lines-law
