use Rattle.um_round.proofs.Numerals.{numeral_word, numeral_value, numeral-law, scaled_back, decimals_least, decimals_most}
use Rattle.um_round.proofs.laws.numeral_law.Goals as goal

pub returns : goal.returns
returns c = record { word = numeral_word; value = numeral_value; number = numeral-law; scaled = scaled_back; fine = decimals_least; most = decimals_most }
