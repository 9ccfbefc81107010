-- The parts of an objective in 128 bits: numbers times squares, and the denominator of the whole.
use Rattle.std.proofs.Common.{◌*◌, ◌≡◌, ℕ, ◌^◌, ◌<◌, ◌≤◌, ℤ, pos, negsuc, ◌*ℤ◌, ◌≤ℤ◌, refl, arith, unsigned_abs, FitsSigned, to_z, of_z}
use Rattle.std.specs.Int.{w128}
use Rattle.std.proofs.lemmas.Int.{ints}
use Rattle.std.proofs.Math.Nat.{one-le-pow, pow-le-pow_right}
use Rattle.um_laws.proofs.WholeLaws.{times_pos}
use Rattle.um_deck.proofs.BoundedSums.{abs_product}
use Rattle.um_point.proofs.Quotients.{factors_are, product_fits, product_is}

-- what 128 bits keep of a number
abbrev seen : ℤ → ℤ
seen z = to_z w128 (of_z w128 z)

square_is : (q : ℤ) → unsigned_abs q < 2 ^ 36 → seen q *ℤ seen q ≡ q *ℤ q
square_is q h = factors_are q q q q (2 ^ 36) (2 ^ 36) refl refl (omega arith) (omega arith) (omega arith) (omega arith)

pub square_size : (q : ℤ) → unsigned_abs q < 2 ^ 36 → unsigned_abs (q *ℤ q) ≤ 2 ^ 72
square_size q h = abs_product q q (2 ^ 36) (2 ^ 36) (omega arith) (omega arith)

pub square_fits : (q : ℤ) → unsigned_abs q < 2 ^ 36 → FitsSigned w128 (seen q *ℤ seen q)
square_fits q h = product_fits q q q q (2 ^ 36) (2 ^ 36) refl refl (omega arith) (omega arith) (omega arith) (omega arith) (omega arith)

-- a number times a square
module _ (q k f : ℤ) (same : f ≡ k) (small : unsigned_abs q < 2 ^ 36) (size : unsigned_abs k ≤ 2 ^ 53) where
  pub times_square_fits : FitsSigned w128 (seen f *ℤ seen (seen q *ℤ seen q))
  times_square_fits =
      product_fits k (q *ℤ q) f (seen q *ℤ seen q) (2 ^ 53) (2 ^ 72) same (square_is q small) size (square_size q small) (omega arith) (omega arith) (omega arith)

  pub times_square_value : seen (seen f *ℤ seen (seen q *ℤ seen q)) ≡ k *ℤ (q *ℤ q)
  times_square_value =
      product_is k (q *ℤ q) f (seen q *ℤ seen q) (2 ^ 53) (2 ^ 72) same (square_is q small) size (square_size q small) (omega arith) (omega arith) (omega arith)

  pub times_square_size : unsigned_abs (seen (seen f *ℤ seen (seen q *ℤ seen q))) ≤ unsigned_abs k * 2 ^ 72
  times_square_size = rw times_square_value (abs_product k (q *ℤ q) (unsigned_abs k) (2 ^ 72) (omega arith) (square_size q small))

-- a product of numbers of at least 1
product_positive : (a b : ℤ) → pos 1 ≤ℤ a → pos 1 ≤ℤ b → pos 1 ≤ℤ (a *ℤ b)
product_positive (pos a) (pos b) h k = omega (arith, ints, times_pos a b (omega (arith, ints)) (omega (arith, ints)))
product_positive (pos a) (negsuc b) h k = absurd (omega (arith, ints))
product_positive (negsuc a) b h k = absurd (omega (arith, ints))

module _ (q t : ℤ) (scale : ℕ) (power : t ≡ pos (10 ^ scale)) (few : scale ≤ 6) (small : unsigned_abs q < 2 ^ 36) where
  power_size : unsigned_abs (pos (10 ^ scale)) ≤ 10 ^ 6
  power_size = pow-le-pow_right (omega arith) few

  pub over_value : seen (seen (seen q *ℤ seen q) *ℤ seen t) ≡ q *ℤ q *ℤ pos (10 ^ scale)
  over_value = product_is (q *ℤ q) (pos (10 ^ scale)) (seen q *ℤ seen q) t (2 ^ 72) (10 ^ 6) (square_is q small) power (square_size q small) power_size (omega arith) (omega arith) (omega arith)

  pub over_positive : pos 1 ≤ℤ q → pos 1 ≤ℤ seen (seen (seen q *ℤ seen q) *ℤ seen t)
  over_positive h = rw over_value (product_positive (q *ℤ q) (pos (10 ^ scale)) (product_positive q q h h) (omega (arith, ints, one-le-pow scale 10 (omega arith))))

  pub over_range : unsigned_abs (seen (seen (seen q *ℤ seen q) *ℤ seen t)) < 2 ^ 127
  over_range = rw over_value (omega (arith, abs_product (q *ℤ q) (pos (10 ^ scale)) (2 ^ 72) (10 ^ 6) (square_size q small) power_size))
