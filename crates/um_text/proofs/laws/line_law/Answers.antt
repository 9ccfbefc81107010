use Rattle.um_text.proofs.WrittenLines.{line_words, rest_words}
use Rattle.um_text.proofs.laws.line_law.Goals as goal

pub returns : goal.returns
returns c = record { line = line_words; rest = rest_words }
