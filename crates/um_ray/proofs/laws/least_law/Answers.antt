use Rattle.um_ray.proofs.Values.{least-law}
use Rattle.um_ray.proofs.laws.least_law.Goals as goal

pub returns : goal.returns
returns c = least-law
