-- The numbers that the limits are, so that none changes unseen.
use Rattle.std.specs.Prelude.{◌≡◌, ◌*◌, ◌^◌, pos}
use Rattle.um_model.specs.declared.limits.TheConstants.{MOST_DECK_BYTES, MOST_TREE_BYTES, MOST_ROW_LINES, MOST_ROWS, MOST_COLUMNS, MOST_SETS, MOST_ARC_COLUMNS, MOST_SCALE, MOST_SIDE, MOST_RANGE, MOST_COEFFICIENT, MOST_ARC, MOST_END, MOST_ARC_END, MOST_WEIGHT, MOST_TOLERANCE, MOST_NODES, POINT_SIZE, RAY_SIZE, MULTIPLIER_SIZE, MOST_NUMBERS, MOST_PIVOTS}

-- each limit is this number
pub record LimitsAre : Type 0 where
  -- bytes of the text of a deck, and of a tree
  pub deck_bytes : MOST_DECK_BYTES ≡ 16777216
  pub tree_bytes : MOST_TREE_BYTES ≡ 2147483648
  -- rows of a text with its N rows, and rows, columns, sets and columns with arcs of a deck
  pub row_lines : MOST_ROW_LINES ≡ 1024
  pub rows : MOST_ROWS ≡ 512
  pub columns : MOST_COLUMNS ≡ 4096
  pub sets : MOST_SETS ≡ 256
  pub arc_columns : MOST_ARC_COLUMNS ≡ 64
  -- places behind the point
  pub scale : MOST_SCALE ≡ 6
  -- sides and ranges of rows, coefficients and costs, and values of arcs, scaled
  pub side : MOST_SIDE ≡ 2 ^ 53
  pub range : MOST_RANGE ≡ 2 ^ 54
  pub coefficient : MOST_COEFFICIENT ≡ 2 ^ 31
  pub arc : MOST_ARC ≡ 2 ^ 24
  -- ends of columns, and of columns with an arc, in thousandths
  pub end : MOST_END ≡ 10000000000
  pub arc_end : MOST_ARC_END ≡ 8000000
  -- weights of members of sets, in millionths
  pub weight : MOST_WEIGHT ≡ 2 ^ 31 * 1000000
  -- the tolerance of an answer, in thousandths
  pub tolerance : MOST_TOLERANCE ≡ pos 1000000000
  -- nodes of a tree
  pub nodes : MOST_NODES ≡ 200001
  -- below these in size are the numbers of a point, of a ray and of multipliers
  pub point_size : POINT_SIZE ≡ 2 ^ 36
  pub ray_size : RAY_SIZE ≡ 2 ^ 62
  pub multiplier_size : MULTIPLIER_SIZE ≡ 2 ^ 40
  -- nodes that a search may solve, and pivots that it may make
  pub numbers : MOST_NUMBERS ≡ 100000
  pub pivots : MOST_PIVOTS ≡ 10000000
