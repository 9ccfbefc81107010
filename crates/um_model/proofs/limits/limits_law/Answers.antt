use Rattle.std.proofs.Common.{refl}
use Rattle.um_model.proofs.limits.limits_law.Goals as goal

pub returns : goal.returns
returns c = record {
  deck_bytes = refl;
  tree_bytes = refl;
  row_lines = refl;
  rows = refl;
  columns = refl;
  sets = refl;
  arc_columns = refl;
  scale = refl;
  side = refl;
  range = refl;
  coefficient = refl;
  arc = refl;
  end = refl;
  arc_end = refl;
  weight = refl;
  tolerance = refl;
  nodes = refl;
  point_size = refl;
  ray_size = refl;
  multiplier_size = refl;
  numbers = refl;
  pivots = refl;
}
