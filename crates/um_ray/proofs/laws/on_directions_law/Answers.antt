use Rattle.um_ray.proofs.MovingEnds.{on-directions-law}
use Rattle.um_ray.proofs.laws.on_directions_law.Goals as goal

pub returns : goal.returns
returns c = on-directions-law
