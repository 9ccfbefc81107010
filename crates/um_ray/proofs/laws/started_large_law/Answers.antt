use Rattle.um_ray.proofs.StartSays.{started-large-law}
use Rattle.um_ray.proofs.laws.started_large_law.Goals as goal

pub returns : goal.returns
returns c = started-large-law
