use Rattle.um_opening.proofs.Begun.{shown-ray-law}
use Rattle.um_opening.proofs.laws.shown_ray_law.Goals as goal

pub returns : goal.returns
returns c = shown-ray-law
