use Rattle.um_ray.proofs.StartSays.{started-ready-law}
use Rattle.um_ray.proofs.laws.started_ready_law.Goals as goal

pub returns : goal.returns
returns c = started-ready-law
