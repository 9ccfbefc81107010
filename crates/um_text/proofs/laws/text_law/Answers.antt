use Rattle.um_text.proofs.WrittenLines.{text_back}
use Rattle.um_text.proofs.laws.text_law.Goals as goal

pub returns : goal.returns
returns c = text_back
