use Rattle.um_ray.proofs.Values.{level-law}
use Rattle.um_ray.proofs.laws.level_law.Goals as goal

pub returns : goal.returns
returns c = level-law
