use Rattle.um_ray.proofs.MovingEnds.{may-start-law}
use Rattle.um_ray.proofs.laws.may_start_law.Goals as goal

pub returns : goal.returns
returns c = may-start-law
