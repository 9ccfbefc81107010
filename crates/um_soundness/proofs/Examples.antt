-- Worked examples of the definitions, by computing.
use Rattle.std.proofs.Common.{◌≡◌, ℤ, pos, negsuc, ◌*ℤ◌, List, [], ◌∷◌, Option, Some, None, false, refl, arith}
use Rattle.std.proofs.lemmas.Int.{ints}
use Rattle.um_laws.specs.Rational.{reduce, whole}
use Rattle.um_model.specs.Values.{DeckValue, ColumnValue}
use Rattle.um_model.specs.Objective.{objective_times}
use Rattle.um_model.specs.Boxes.{BoxValue, root}
use Rattle.um_model.specs.Branches.{left, right}
use Rattle.um_model.specs.LeafValue.{leaf_value, leaf_bound, Empties}
use Rattle.um_model.specs.Tolerance.{least_tolerance}
use Rattle.um_soundness.proofs.Scaling.{reduce_common}
use Rattle.um_model.specs.declared.deck.Kind.TheVariants.{Continuous, Integer}
use Rattle.um_model.specs.declared.branch.Branch.TheVariants.{Int}
use Rattle.um_multipliers.specs.declared.multipliers.Price.{Price}
use Rattle.um_model.specs.declared.leaf.Leaf.TheVariants.{Value, EndlessColumn, EndlessRow}

-- ---- min -x - 2y; x + y <= 4; x in [0, 3], y in [0, 2]
linear_deck : DeckValue
linear_deck = record {
  name = [];
  objective_name = [];
  maximise = false;
  scale = 0;
  constant = pos 0;
  rows = record { name = []; scale = 0; low = None; high = Some (pos 4) } ∷ [];
  columns = record { name = []; kind = Continuous; low = Some (pos 0); high = Some (pos 3000); cost = negsuc 0; entries = record { row = 0; value = pos 1 } ∷ [] }
      ∷ record { name = []; kind = Continuous; low = Some (pos 0); high = Some (pos 2000); cost = negsuc 1; entries = record { row = 0; value = pos 1 } ∷ [] } ∷ [];
  sets = [];
  arcs = [];
}

-- the row gives -4000, and y gives -2000
linear_value : leaf_value linear_deck (root linear_deck) (record { y0 = pos 1; rows = record { row = 0; value = negsuc 0 } ∷ [] }) ≡ Value (negsuc 5999)
unfolding linear_deck leaf_value
linear_value = refl

linear_objective : objective_times linear_deck (record { den = pos 1; parts = pos 2 ∷ pos 2 ∷ [] }) ≡ negsuc 5
unfolding linear_deck leaf_value
linear_objective = refl

-- a multiplier of the wrong sign meets the side that is not there
wrong_sign : leaf_value linear_deck (root linear_deck) (record { y0 = pos 1; rows = record { row = 0; value = pos 1 } ∷ [] }) ≡ EndlessRow 0
unfolding linear_deck leaf_value
wrong_sign = refl

-- ---- min -5x - 4y; 6x + 4y <= 24; x + 2y <= 6; x and y whole in [0, 10]
whole_column : ℤ → ℤ → ℤ → ColumnValue
whole_column cost a b = record { name = []; kind = Integer; low = Some (pos 0); high = Some (pos 10000); cost = cost; entries = record { row = 0; value = a } ∷ record { row = 1; value = b } ∷ [] }

whole_deck : DeckValue
whole_deck = record {
  name = [];
  objective_name = [];
  maximise = false;
  scale = 0;
  constant = pos 0;
  rows = record { name = []; scale = 0; low = None; high = Some (pos 24) } ∷ record { name = []; scale = 0; low = None; high = Some (pos 6) } ∷ [];
  columns = whole_column (negsuc 4) (pos 6) (pos 1) ∷ whole_column (negsuc 3) (pos 4) (pos 2) ∷ [];
  sets = [];
  arcs = [];
}

y_split : BoxValue × BoxValue
y_split = (left whole_deck (root whole_deck) (Int 1 (pos 1)), right whole_deck (root whole_deck) (Int 1 (pos 1)))

two_rows : ℤ → ℤ → List Price
two_rows a b = record { row = 0; value = a } ∷ record { row = 1; value = b } ∷ []

-- both children, y <= 1 and y >= 2, under the root's multipliers
left_value : leaf_value whole_deck y_split.0 (record { y0 = pos 4; rows = two_rows (negsuc 2) (negsuc 1) }) ≡ Value (negsuc 83999)
unfolding whole_deck whole_column y_split two_rows leaf_value
left_value = refl

right_value : leaf_value whole_deck y_split.1 (record { y0 = pos 4; rows = two_rows (negsuc 2) (negsuc 1) }) ≡ Value (negsuc 83999)
unfolding whole_deck whole_column y_split two_rows leaf_value
right_value = refl

-- the three leaves of its tree: x <= 3 and y <= 1; x >= 4 and y <= 1; y >= 2
leaf_values : (leaf_value whole_deck (left whole_deck y_split.0 (Int 0 (pos 3))) (record { y0 = pos 1; rows = [] }) ≡ Value (negsuc 18999))
    × (leaf_value whole_deck (right whole_deck y_split.0 (Int 0 (pos 3))) (record { y0 = pos 1; rows = record { row = 0; value = negsuc 0 } ∷ [] }) ≡ Value (negsuc 19999))
    × (leaf_value whole_deck y_split.1 (record { y0 = pos 1; rows = record { row = 1; value = negsuc 4 } ∷ [] }) ≡ Value (negsuc 17999))
unfolding whole_deck whole_column y_split two_rows leaf_value
leaf_values = (refl, refl, refl)

leaf_bounds : (leaf_bound whole_deck (pos 1) (negsuc 18999) ≡ whole (negsuc 18)) × (leaf_bound whole_deck (pos 1) (negsuc 19999) ≡ whole (negsuc 19)) × (leaf_bound whole_deck (pos 1) (negsuc 17999) ≡ whole (negsuc 17))
unfolding whole whole_deck leaf_value
leaf_bounds = (thousand (negsuc 18), thousand (negsuc 19), thousand (negsuc 17))
  where
    thousand : (n : ℤ) → reduce (pos 1000 *ℤ n) 1000 ≡ reduce n 1
    thousand n = reduce_common n 1 1000 (omega arith) (omega arith)

-- ---- 2x = 1; x whole in [0, 1]; no cost
half_deck : DeckValue
half_deck = record {
  name = [];
  objective_name = [];
  maximise = false;
  scale = 0;
  constant = pos 0;
  rows = record { name = []; scale = 0; low = Some (pos 1); high = Some (pos 1) } ∷ [];
  columns = record { name = []; kind = Integer; low = Some (pos 0); high = Some (pos 1000); cost = pos 0; entries = record { row = 0; value = pos 2 } ∷ [] } ∷ [];
  sets = [];
  arcs = [];
}

-- both children are empty
half_left : Empties half_deck (left half_deck (root half_deck) (Int 0 (pos 0))) (record { y0 = pos 0; rows = record { row = 0; value = pos 1 } ∷ [] })
unfolding half_deck leaf_value
half_left = record { y0 = refl; value = pos 1000; value_is = refl; above = omega (arith, ints) }

half_right : Empties half_deck (right half_deck (root half_deck) (Int 0 (pos 0))) (record { y0 = pos 0; rows = record { row = 0; value = negsuc 0 } ∷ [] })
unfolding half_deck leaf_value
half_right = record { y0 = refl; value = pos 1000; value_is = refl; above = omega (arith, ints) }

-- ---- min -x; x * x <= 2; x in [0, 2]
root_deck : Option ℤ → ℤ → DeckValue
root_deck low cost = record {
  name = [];
  objective_name = [];
  maximise = false;
  scale = 0;
  constant = pos 0;
  rows = record { name = []; scale = 0; low = low; high = Some (pos 2) } ∷ [];
  columns = record { name = []; kind = Continuous; low = Some (pos 0); high = Some (pos 2000); cost = cost; entries = [] } ∷ [];
  sets = [];
  arcs = record { row = Some 0; column = 0; value = pos 1 } ∷ [];
}

-- the curve is -29000 x + 10 x x, with its vertex at 1450; the row gives -20000
at_vertex : leaf_value (root_deck None (negsuc 0)) (root (root_deck None (negsuc 0))) (record { y0 = pos 29; rows = record { row = 0; value = negsuc 9 } ∷ [] }) ≡ Value (negsuc 41024)
unfolding root_deck leaf_value
at_vertex = refl

at_vertex_bound : leaf_bound (root_deck None (negsuc 0)) (pos 29) (negsuc 41024) ≡ reduce (negsuc 1640) 1160
unfolding root_deck leaf_value
at_vertex_bound = reduce_common (negsuc 1640) 1160 25 (omega arith) (omega arith)

-- ---- x * x = 2 on [1.413, 1.414]: -1.414 * 1.414 is rounded down to -2.000, so that 0:1 does not empty the box
narrow : leaf_value (root_deck (Some (pos 2)) (pos 1)) (record { ends = record { low = Some (pos 1413); high = Some (pos 1414) } ∷ []; spans = [] }) (record { y0 = pos 0; rows = record { row = 0; value = pos 1 } ∷ [] }) ≡ Value (pos 0)
unfolding root_deck leaf_value
narrow = refl

-- ---- a column without a low end has no least value under a positive cost
free_deck : DeckValue
free_deck = record {
  name = [];
  objective_name = [];
  maximise = false;
  scale = 0;
  constant = pos 0;
  rows = [];
  columns = record { name = []; kind = Continuous; low = Some (pos 0); high = None; cost = pos 1; entries = [] } ∷ record { name = []; kind = Continuous; low = None; high = None; cost = pos 1; entries = [] } ∷ [];
  sets = [];
  arcs = [];
}

endless : leaf_value free_deck (root free_deck) (record { y0 = pos 1; rows = [] }) ≡ EndlessColumn 1
unfolding free_deck leaf_value
endless = refl

-- ---- min cost * x + square * x * x; x in [0, 1]
curve_deck : ℤ → ℤ → DeckValue
curve_deck cost square = record {
  name = [];
  objective_name = [];
  maximise = false;
  scale = 0;
  constant = pos 0;
  rows = [];
  columns = record { name = []; kind = Continuous; low = Some (pos 0); high = Some (pos 1000); cost = cost; entries = [] } ∷ [];
  sets = [];
  arcs = record { row = None; column = 0; value = square } ∷ [];
}

-- -5 x + 7 x x has its vertex at 2500 / 7 = 357 + 1/7 thousandths. At 357 it is -5000 * 357 + 7 * 357 * 357 = -892857 millionths; 7/4 rounded up is 2; -892859 / 1000 rounded down is -893
beside : leaf_value (curve_deck (negsuc 4) (pos 7)) (root (curve_deck (negsuc 4) (pos 7))) (record { y0 = pos 1; rows = [] }) ≡ Value (negsuc 892)
unfolding curve_deck leaf_value
beside = refl

-- -x + 8 x x has its vertex at 62 + 1/2; of 62 and 63 the lower is taken. At 62 it is -31248; 8/4 is 2; and -31250 is the least value: -31.25 is rounded down to -32
halfway : leaf_value (curve_deck (negsuc 0) (pos 8)) (root (curve_deck (negsuc 0) (pos 8))) (record { y0 = pos 1; rows = [] }) ≡ Value (negsuc 31)
unfolding curve_deck leaf_value
halfway = refl

-- a curve that opens downwards is least at an end: -1 - 1 at x = 1
downwards : leaf_value (curve_deck (negsuc 0) (negsuc 0)) (root (curve_deck (negsuc 0) (negsuc 0))) (record { y0 = pos 1; rows = [] }) ≡ Value (negsuc 1999)
unfolding curve_deck leaf_value
downwards = refl

-- one arc of size 1: 1 thousandth, and 1 / 1000 rounded up
tolerance_here : (least_tolerance (curve_deck (negsuc 0) (negsuc 0)) ≡ pos 2) × (least_tolerance whole_deck ≡ pos 0)
unfolding curve_deck whole_deck leaf_value
tolerance_here = (refl, refl)
