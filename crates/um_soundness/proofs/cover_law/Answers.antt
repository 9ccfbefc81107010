use Rattle.um_soundness.proofs.Cover.{cover-law}
use Rattle.um_soundness.proofs.cover_law.Goals as goal

pub returns : goal.returns
returns c = cover-law
