-- Numbers over a denominator, in 128 bits.
use Rattle.std.proofs.Common.{◌≡◌, ℕ, zero, suc, ◌*◌, ◌^◌, ◌<◌, ◌≤◌, ℤ, pos, ◌-ℤ◌, ◌*ℤ◌, ◌≤ℤ◌, ◌∙◌, ap, refl, arith, unsigned_abs, int_div, int_rem, FitsSigned, to_z, of_z}
use Rattle.std.specs.Int.{w128}
use Rattle.std.proofs.lemmas.Int.{ints, to_z-of_z, quot-rem, rem_below, unsigned_abs-mul}
use Rattle.um_laws.proofs.Polynomials.{term, ◌⊖◌, ◌⊗◌, same}
use Rattle.um_model.specs.Feasible.{IsMultipleOf}
use Rattle.std.specs.Prelude.{IsTrue, ◌↔◌, eqb}
use Rattle.std.proofs.lemmas.Bool.{eqb-true, eq-eqb}
use Rattle.um_deck.proofs.BoundedSums.{abs_product, fits_128}

-- the machine's product of two numbers, where it fits
module _ (a b f g : ℤ) (m n : ℕ) (left : f ≡ a) (right : g ≡ b) (left_size : unsigned_abs a ≤ m) (right_size : unsigned_abs b ≤ n) (left_fits : m < 2 ^ 127) (right_fits : n < 2 ^ 127) where
  pub factors_are : to_z w128 (of_z w128 f) *ℤ to_z w128 (of_z w128 g) ≡ a *ℤ b
  factors_are =
      let fa : FitsSigned w128 a = fits_128 a (omega arith) in
      let fb : FitsSigned w128 b = fits_128 b (omega arith) in
      rw (left, right) (simp to_z-of_z)

  pub product_fits : m * n < 2 ^ 127 → FitsSigned w128 (to_z w128 (of_z w128 f) *ℤ to_z w128 (of_z w128 g))
  product_fits fit = rw factors_are (fits_128 (a *ℤ b) (omega (arith, abs_product a b m n left_size right_size)))

  pub product_is : m * n < 2 ^ 127 → to_z w128 (of_z w128 (to_z w128 (of_z w128 f) *ℤ to_z w128 (of_z w128 g))) ≡ a *ℤ b
  product_is fit =
      let fp : FitsSigned w128 (a *ℤ b) = fits_128 (a *ℤ b) (omega (arith, abs_product a b m n left_size right_size)) in
      rw factors_are (simp to_z-of_z)

-- ---- whole numbers among the quotients

no_factor : (m n : ℕ) → m * n < m → n ≡ 0
no_factor m zero h = refl
no_factor m (suc n) h = absurd (omega arith)

zero_size : (z : ℤ) → unsigned_abs z ≡ 0 → z ≡ pos 0
zero_size z h = omega (arith, ints)

-- nothing is left of a division exactly where the divisor divides
pub multiple_from : (q x : ℤ) → int_rem x q ≡ pos 0 → IsMultipleOf q x
multiple_from q x h = (int_div x q, omega (arith, ints, quot-rem x q, h))

pub multiple_to : (q x : ℤ) → pos 1 ≤ℤ q → IsMultipleOf q x → int_rem x q ≡ pos 0
multiple_to q x h (n, e) =
    let left : int_rem x q ≡ q *ℤ (n -ℤ int_div x q) =
    omega (arith, ints, quot-rem x q, e, same (term q ⊗ (term n ⊖ term (int_div x q))) (term q ⊗ term n ⊖ term (int_div x q) ⊗ term q) (omega arith)) in
    let size : unsigned_abs (int_rem x q) ≡ unsigned_abs q * unsigned_abs (n -ℤ int_div x q) = ap unsigned_abs left ∙ unsigned_abs-mul q (n -ℤ int_div x q) in
    let none : unsigned_abs (n -ℤ int_div x q) ≡ 0 = no_factor (unsigned_abs q) (unsigned_abs (n -ℤ int_div x q)) (omega (arith, size, rem_below x q (omega (arith, ints)))) in
    zero_size (int_rem x q) (size ∙ rw none (omega arith))

-- the machine's test for it
pub whole_test : (q x : ℤ) → FitsSigned w128 q → FitsSigned w128 x → pos 1 ≤ℤ q → IsTrue (eqb (of_z w128 (int_rem (to_z w128 (of_z w128 x)) (to_z w128 (of_z w128 q)))) 0) ↔ IsMultipleOf q x
whole_test q x fq fx h =
    let below = rem_below x q (omega (arith, ints)) in
    simp to_z-of_z (
      λ t. multiple_from q x (let z : of_z w128 (int_rem x q) ≡ 0 = eqb-true _ _ t in omega (arith, ints, z, below)),
      λ m. eq-eqb _ _ (omega (arith, ints, multiple_to q x h m)),
    )
