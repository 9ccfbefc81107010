use Rattle.um_progress.proofs.Lineages.{rise_told}
use Rattle.um_progress.proofs.laws.rising_law.Goals as goal

pub returns : goal.returns
returns c = rise_told
