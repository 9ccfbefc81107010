-- Values against ends.
use Rattle.std.proofs.Common.{◌≡◌, sym, ap, ◌∙◌, subst, Option, Some, ◌↔◌, to_z, of_z}
use Rattle.std.specs.Prelude.{ℤ, pos}
use Rattle.std.specs.Int.{w128}
use Rattle.std.specs.Option.{ForSome}
use Rattle.um_laws.specs.Rational.{Rational, whole}
use Rattle.um_num.specs.Fractions.{IsBelow}
use Rattle.um_num.specs.Numbers.{IsInRange}
use Rattle.um_num.specs.Views.{rational}
use Rattle.um_num.proofs.Parts.{from_bits}
use Rattle.um_lp.specs.DualSteps.{IsBelowEnd, IsAboveEnd}
use Rattle.std.proofs.Common.{refl}

pub below_end : (low : Option ℤ) (end : ℤ) (f v : Rational) (T : Type 0) → low ≡ Some end → f ≡ whole end → T ↔ IsBelow v f → T ↔ IsBelowEnd low v
below_end low end f v T e is h = (
  λ t. (end, e, subst (λ (z : Rational). IsBelow v z) is (h.0 t)),
  λ b. h.1 (let same : end ≡ b.0 = let q : Some end ≡ Some b.0 = sym e ∙ b.1 in cc in subst (λ (z : Rational). IsBelow v z) (ap whole (sym same) ∙ sym is) b.2),
)

pub above_end : (high : Option ℤ) (end : ℤ) (f v : Rational) (T : Type 0) → high ≡ Some end → f ≡ whole end → T ↔ IsBelow f v → T ↔ IsAboveEnd high v
above_end high end f v T e is h = (
  λ t. (end, e, subst (λ (z : Rational). IsBelow z v) is (h.0 t)),
  λ b. h.1 (let same : end ≡ b.0 = let q : Some end ≡ Some b.0 = sym e ∙ b.1 in cc in subst (λ (z : Rational). IsBelow z v) (ap whole (sym same) ∙ sym is) b.2),
)

-- a whole number over 1
over_one : (n : ℤ) → rational n (pos 1) ≡ whole n
unfolding whole
over_one n = refl

-- an end in range, read from its bits, over 1
pub end_over_one : (ends : Option ℤ) (n : ℤ) (f : Rational) → ForSome ends IsInRange → ends ≡ Some n → f ≡ rational (to_z w128 (of_z w128 n)) (pos 1) → f ≡ whole n
end_over_one ends n f h e is = let r : IsInRange n = h n e in is ∙ ap (λ (z : ℤ). rational z (pos 1)) (from_bits n r) ∙ over_one n
