use Rattle.um_text.proofs.WrittenLines.{lines_back}
use Rattle.um_text.proofs.laws.lines_law.Goals as goal

pub returns : goal.returns
returns c = lines_back
