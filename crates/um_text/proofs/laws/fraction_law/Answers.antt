use Rattle.um_text.proofs.WrittenWords.{fraction_is_word, num_back, den_back, no_den}
use Rattle.um_text.proofs.laws.fraction_law.Goals as goal

pub returns : goal.returns
returns c = record { word = fraction_is_word; num = num_back; den = den_back; one = no_den }
