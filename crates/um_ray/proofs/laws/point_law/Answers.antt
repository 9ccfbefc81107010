use Rattle.um_ray.proofs.Points.{point-law}
use Rattle.um_ray.proofs.laws.point_law.Goals as goal

pub returns : goal.returns
returns c = point-law
