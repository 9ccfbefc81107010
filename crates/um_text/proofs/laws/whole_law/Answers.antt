use Rattle.um_text.proofs.ReadBack.{read_back}
use Rattle.um_text.proofs.WrittenWords.{whole_word}
use Rattle.um_text.proofs.laws.whole_law.Goals as goal

pub returns : goal.returns
returns c = record { word = whole_word; back = read_back }
