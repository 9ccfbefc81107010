use Rattle.um_words.proofs.SolveLines.{solve_words_law}
use Rattle.um_words.proofs.laws.solve_words_law.Goals as goal

pub returns : goal.returns
returns c = solve_words_law
