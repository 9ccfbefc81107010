-- What the order of a number and 0 says of the number.
use Rattle.std.proofs.Common.{◌≡◌, ◌≢◌, arith, refl, ◌↔◌, IsTrue, Ordering, Less, Equal, Greater}
use Rattle.std.specs.Prelude.{pos, ◌<ℤ◌}
use Rattle.std.specs.Ordering.{MatchOrdering, int_cmp, is_gt, is_lt, is_ne}
use Rattle.std.proofs.lemmas.Cmp.{int_ranked}
use Rattle.std.proofs.lemmas.Int.{ints}
use Rattle.um_laws.specs.Rational.{Rational, whole}
use Rattle.um_num.proofs.Parts.{zero_parts, parts_zero}

pub is_above : (x : Rational) (sign : Ordering) → sign ≡ int_cmp x.num (pos 0) → IsTrue (is_gt sign) ↔ (pos 0 <ℤ x.num)
is_above x sign e = by sign (int_ranked x.num (pos 0) sign e)
  where
    by : (r : Ordering) → MatchOrdering r (x.num <ℤ pos 0) (x.num ≡ pos 0) (pos 0 <ℤ x.num) → IsTrue (is_gt r) ↔ (pos 0 <ℤ x.num)
    by Less h = (λ t. cc, λ up. absurd (omega (arith, ints)))
    by Equal h = (λ t. cc, λ up. absurd (omega (arith, ints)))
    by Greater h = (λ t. h, λ up. refl)

pub is_below : (x : Rational) (sign : Ordering) → sign ≡ int_cmp x.num (pos 0) → IsTrue (is_lt sign) ↔ (x.num <ℤ pos 0)
is_below x sign e = by sign (int_ranked x.num (pos 0) sign e)
  where
    by : (r : Ordering) → MatchOrdering r (x.num <ℤ pos 0) (x.num ≡ pos 0) (pos 0 <ℤ x.num) → IsTrue (is_lt r) ↔ (x.num <ℤ pos 0)
    by Less h = (λ t. h, λ down. refl)
    by Equal h = (λ t. cc, λ down. absurd (omega (arith, ints)))
    by Greater h = (λ t. cc, λ down. absurd (omega (arith, ints)))

pub is_not_zero : (x : Rational) (sign : Ordering) → sign ≡ int_cmp x.num (pos 0) → IsTrue (is_ne sign) ↔ (x ≢ whole (pos 0))
is_not_zero x sign e = by sign (int_ranked x.num (pos 0) sign e)
  where
    by : (r : Ordering) → MatchOrdering r (x.num <ℤ pos 0) (x.num ≡ pos 0) (pos 0 <ℤ x.num) → IsTrue (is_ne r) ↔ (x ≢ whole (pos 0))
    by Less h = (λ t z. let n = zero_parts x z in omega (arith, ints, n), λ other. refl)
    by Equal h = (λ t. cc, λ other. absurd (other (parts_zero x h)))
    by Greater h = (λ t z. let n = zero_parts x z in omega (arith, ints, n), λ other. refl)
