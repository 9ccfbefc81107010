-- A number is below another where the other is not at most it.
use Rattle.std.proofs.Common.{◌≡◌, pos, ◌*ℤ◌, ◌<ℤ◌, refl, arith, Ordering, Less, Equal, Greater}
use Rattle.std.specs.Ordering.{MatchOrdering}
use Rattle.std.specs.Cmp.{int_ranked}
use Rattle.std.proofs.lemmas.Int.{ints}
use Rattle.um_laws.specs.Rational.{Rational}
use Rattle.um_num.specs.Fractions.{IsBelow, order}
use Rattle.um_num.proofs.Order.{ordered, not_below_same, not_below_both}
use Rattle.um_model.specs.Accepted.{IsAtMost}
use Rattle.um_turns.specs.Laws.{OrderLaw}

-- as the products crosswise stand
abbrev Crosswise : Ordering → Rational → Rational → Type 0
Crosswise r x y = MatchOrdering r ((x.num *ℤ pos y.den) <ℤ (y.num *ℤ pos x.den)) (x.num *ℤ pos y.den ≡ y.num *ℤ pos x.den) ((y.num *ℤ pos x.den) <ℤ (x.num *ℤ pos y.den))

below_not : (x y : Rational) (r : Ordering) → Crosswise r x y → MatchOrdering r (IsBelow x y) (x ≡ y) (IsBelow y x) → IsBelow x y → ¬ IsAtMost y x
below_not x y Less h o below at = omega (arith, ints, h, at)
below_not x y Equal h o below at = not_below_same x y o below
below_not x y Greater h o below at = not_below_both x y o below

not_below : (x y : Rational) (r : Ordering) → Crosswise r x y → MatchOrdering r (IsBelow x y) (x ≡ y) (IsBelow y x) → ¬ IsBelow x y → IsAtMost y x
not_below x y Less h o none = absurd (none o)
not_below x y Equal h o none = omega (arith, ints, h)
not_below x y Greater h o none = omega (arith, ints, h)

ranked : (x y : Rational) → Crosswise (order x y) x y
unfolding order
ranked x y = int_ranked (x.num *ℤ pos y.den) (y.num *ℤ pos x.den) (order x y) refl

pub in_order : OrderLaw
in_order x y = (below_not x y (order x y) (ranked x y) (ordered x y), not_below x y (order x y) (ranked x y) (ordered x y))
