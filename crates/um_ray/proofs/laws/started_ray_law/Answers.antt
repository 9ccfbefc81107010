use Rattle.um_ray.proofs.StartSays.{started-ray-law}
use Rattle.um_ray.proofs.laws.started_ray_law.Goals as goal

pub returns : goal.returns
returns c = started-ray-law
