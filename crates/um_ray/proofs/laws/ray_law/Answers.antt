use Rattle.um_ray.proofs.Rays.{ray-law}
use Rattle.um_ray.proofs.laws.ray_law.Goals as goal

pub returns : goal.returns
returns c = ray-law
