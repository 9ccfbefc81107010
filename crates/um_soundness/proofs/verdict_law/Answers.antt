use Rattle.um_soundness.proofs.Verdicts.{verdict-law}
use Rattle.um_soundness.proofs.verdict_law.Goals as goal

pub returns : goal.returns
returns c = verdict-law
