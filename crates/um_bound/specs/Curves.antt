-- The size of the curves that columns with arcs have.
use Rattle.std.specs.Prelude.{◌*◌}
use Rattle.um_model.specs.WellFormed.{IsWithin}
use Rattle.um_model.specs.declared.limits.TheConstants.{MOST_COEFFICIENT, MOST_ARC, MULTIPLIER_SIZE}
use Rattle.um_bound.specs.declared.curves.Curve.{Curve}

-- multipliers below 2^40 times costs of at most 2^31 in 513 rows, and times an arc of at most 2^24
pub record IsSmallCurve (c : Curve) : Type 0 where
  pub linear : IsWithin (513 * (MULTIPLIER_SIZE * MOST_COEFFICIENT)) c.linear
  pub square : IsWithin (MULTIPLIER_SIZE * MOST_ARC) c.square
