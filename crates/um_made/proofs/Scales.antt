-- Scales of lists, and powers of ten.
use Rattle.std.proofs.Common.{◌≡◌, ℕ, ◌+◌, ◌*◌, ◌^◌, ◌≤◌, ◌<◌, max, List, [], ◌∷◌, ◌++◌, take, length, get_or, refl, ap, ◌∙◌, arith, ℤ, pos, ◌*ℤ◌, ◌+ℤ◌, unsigned_abs, FitsSigned}
use Rattle.std.specs.Int.{w128}
use Rattle.std.proofs.lemmas.List.{take_more}
use Rattle.std.proofs.Math.Nat.{pow-le-pow_right, mul-le-mul_right}
use Rattle.std.proofs.lemmas.Int.{ints, unsigned_abs-mul}
use Rattle.um_num.specs.declared.decimal.Decimal.{Decimal}
use Rattle.um_statements.specs.Scaled.{decimals, least_scale, times_ten}

pub scale_push : (vs : List Decimal) (v : Decimal) → least_scale (vs ++ v ∷ []) ≡ max (decimals v) (least_scale vs)
scale_push [] v = refl
scale_push (w ∷ vs) v = rw (scale_push vs v) (omega arith)

pub scale_taken : (vs : List Decimal) (i : ℕ) (d : Decimal) → i < length vs → least_scale (take (i + 1) vs) ≡ max (decimals (get_or vs i d)) (least_scale (take i vs))
scale_taken vs i d h = ap least_scale (take_more vs i d h) ∙ scale_push (take i vs) (get_or vs i d)

-- a power of ten of up to 38 zeros is below 2 ^ 127
pub small_power : (n : ℕ) → n ≤ 38 → 10 ^ n < 2 ^ 127
small_power n low = omega (arith, pow-le-pow_right {n = 10} (omega arith) {i = n} {j = 38} low)

pub power_fits : (n : ℕ) → n ≤ 38 → FitsSigned w128 (pos (10 ^ n))
power_fits n low = let small = small_power n low in omega (arith, ints, small)

-- one with more zeros is above it, and so is what it is multiplied by
pub large_power : (n : ℕ) → 38 < n → 2 ^ 127 ≤ 10 ^ n
large_power n high = omega (arith, pow-le-pow_right {n = 10} (omega arith) {i = 39} {j = n} high)

pub large_product : (d : ℤ) (n : ℕ) → 1 ≤ unsigned_abs d → 38 < n → 2 ^ 127 ≤ unsigned_abs (d *ℤ pos (10 ^ n))
large_product d n size high =
    let more : 1 * 10 ^ n ≤ unsigned_abs d * 10 ^ n = mul-le-mul_right (10 ^ n) size in
    rw (unsigned_abs-mul d (pos (10 ^ n))) (omega (arith, more, large_power n high))

pub zeros_are : (v : Decimal) (scale n : ℕ) → pos n ≡ v.power +ℤ pos scale → times_ten v scale ≡ v.digits *ℤ pos (10 ^ n)
zeros_are v scale n e = rw (← e) refl
