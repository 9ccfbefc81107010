-- The least of the bounds of a tree's leaves, as it is found leaf by leaf.
use Rattle.std.specs.Prelude.{List, [], ◌∷◌, Option, Some, None}
use Rattle.std.specs.declared.cmp.Ordering.{Ordering}
use Rattle.std.specs.declared.cmp.Ordering.TheVariants.{Less, Equal, Greater}
use Rattle.um_laws.specs.Rational.{Rational}
use Rattle.um_num.specs.Fractions.{order}
use Rattle.um_check.specs.declared.bound.LeastBound.{LeastBound}
use Rattle.um_check.specs.declared.bound.LeastBound.TheVariants.{Nothing, Endless, Least}

-- y where it stands below x
abbrev pub lesser_by : Ordering → Rational → Rational → Rational
lesser_by Less x y = y
lesser_by Equal x y = x
lesser_by Greater x y = x

abbrev pub lesser : Rational → Rational → Rational
lesser x y = lesser_by (order y x) x y

-- of both
abbrev pub joined : LeastBound → LeastBound → LeastBound
joined Nothing other = other
joined Endless other = Endless
joined (Least x) Nothing = Least x
joined (Least x) Endless = Endless
joined (Least x) (Least y) = Least (lesser x y)

-- of one leaf with this bound
abbrev pub of_bound : Option Rational → LeastBound
of_bound None = Endless
of_bound (Some x) = Least x

-- of leaves whose bounds are these, and of those before
abbrev pub joined_all : LeastBound → List (Option Rational) → LeastBound
joined_all before [] = before
joined_all before (bound ∷ bounds) = joined_all (joined before (of_bound bound)) bounds

abbrev pub least_of : List (Option Rational) → LeastBound
least_of bounds = joined_all Nothing bounds

-- the bound that an answer states
abbrev pub told : LeastBound → Option Rational
told Nothing = None
told Endless = None
told (Least x) = Some x
