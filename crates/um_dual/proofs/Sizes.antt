-- Sizes of numbers.
use Rattle.std.proofs.Common.{◌≡◌, arith, sym, ap, ◌∙◌, refl}
use Rattle.std.specs.Prelude.{ℤ, pos, negsuc, ◌<ℤ◌, ◌≤ℤ◌}
use Rattle.std.proofs.lemmas.Int.{ints}
use lib.IntN.{neg_ℤ, nat_abs}
use Rattle.um_laws.proofs.RationalParts.{reduce_parts}
use Rattle.um_laws.specs.Rational.{Rational, reduce, neg}
use Rattle.um_lp.specs.DualSteps.{size}

turned : (n : ℤ) → n <ℤ pos 0 → neg_ℤ n ≡ pos (nat_abs n)
turned (pos n) h = absurd (omega (arith, ints))
turned (negsuc n) h = refl

kept : (n : ℤ) → pos 0 ≤ℤ n → pos (nat_abs n) ≡ n
kept (pos n) h = refl
kept (negsuc n) h = absurd (omega (arith, ints))

-- the size of a number below 0 is its negative
pub size_of_negative : (x : Rational) → x.num <ℤ pos 0 → neg x ≡ size x
unfolding neg
size_of_negative x h = ap (λ (n : ℤ). reduce n x.den) (turned x.num h)

-- another number is its size
pub size_of_other : (x : Rational) → pos 0 ≤ℤ x.num → x ≡ size x
size_of_other x h = sym (ap (λ (n : ℤ). reduce n x.den) (kept x.num h) ∙ reduce_parts x)
