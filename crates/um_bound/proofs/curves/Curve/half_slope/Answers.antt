use Rattle.um_bound.proofs.CurveSteps.{half_slope_is}
use Rattle.um_bound.proofs.curves.Curve.half_slope.Goals as goal

pub returns : goal.returns
returns c = record { value = half_slope_is c.args.self.now.linear c.args.self.now.square c.args.x c.requires.small.linear c.requires.small.square c.requires.value }
