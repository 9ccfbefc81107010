-- The ray that is read from a board that has ended on the start problem.
use Rattle.std.specs.Prelude.{ℤ, List, length, take}
use Rattle.um_laws.specs.Rational.{Rational}
use Rattle.um_model.specs.Values.{DeckValue}
use Rattle.um_model.specs.Objective.{cost_sum}
use Rattle.um_lp.specs.States.{State}
use Rattle.um_duality.specs.WholeMultiples.{whole_multiples}

-- the values of the deck's columns
abbrev pub column_values : State → List Rational
column_values s = take (length s.frame.columns) s.values

-- these values times their least common denominator
abbrev pub direction : State → List ℤ
direction s = whole_multiples (column_values s)

-- what the costs come to along it: below 0 where it is a ray
abbrev pub slope : DeckValue → State → ℤ
slope d s = cost_sum d (direction s)
