use Rattle.um_progress.proofs.KeyBounds.{counts_endless}
use Rattle.um_progress.proofs.laws.endless_count_law.Goals as goal

pub returns : goal.returns
returns c = λ d leaf y0 k endless least is up none. counts_endless d leaf y0 k is endless least up none
