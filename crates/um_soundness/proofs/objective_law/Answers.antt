use Rattle.um_soundness.proofs.Objectives.{objective-law}
use Rattle.um_soundness.proofs.objective_law.Goals as goal

pub returns : goal.returns
returns c = objective-law
