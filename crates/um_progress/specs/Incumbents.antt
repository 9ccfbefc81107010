-- The best point so far: its objective, and the point.
use Rattle.std.specs.Prelude.{Option, Some, None, option_map}
use Rattle.um_laws.specs.Rational.{Rational}
use Rattle.um_model.specs.Values.{PointValue, plain_point}
use Rattle.um_progress.specs.declared.incumbent.Incumbent.{Incumbent}

-- the objective of the best point so far, if there is one
abbrev pub objective_of : Option Incumbent → Option Rational
objective_of i = option_map (λ (x : Incumbent). x.objective) i

-- the best point, if there is one
abbrev pub point_of : Option Incumbent → Option PointValue
point_of None = None
point_of (Some i) = Some (plain_point i.point)
