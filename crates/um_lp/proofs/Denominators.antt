-- The least common denominator of numbers: positive, divided by each denominator, and least.
use Rattle.std.proofs.Common.{◌≡◌, ℕ, zero, suc, ◌*◌, ◌/◌, ◌<◌, ◌≤◌, List, [], ◌∷◌, length, get_or, arith, sym, ap, ◌∙◌, subst}
use Rattle.std.specs.Int.{IsGcd, ◌∣◌}
use Rattle.std.proofs.Math.Nat.{div-mul_cancel, dvd_trans, dvd-mul_right, dvd-mul_left, mul-dvd-mul_right, dvd_of_mul-dvd-mul_right}
use native.Mathlib.Nat.{eq-one_of_dvd-one, eq_of_mul-eq-mul_left}
use Rattle.um_laws.specs.Divisors.{gcd, Coprime}
use Rattle.um_laws.specs.LowestTerms.{gcd_is, gcd_pos}
use Rattle.um_laws.proofs.Coprime.{gauss}
use Rattle.um_laws.specs.Rational.{Rational}
use Rattle.um_lp.specs.WideStates.{common, common_denominator}

-- a number over a divisor is at least 1
over_positive : (a g : ℕ) → 0 < a → g ∣ a → 0 < a / g
over_positive a g h d = by (a / g) (div-mul_cancel g d)
  where
    by : (q : ℕ) → q * g ≡ a → 0 < q
    by zero e = absurd (omega arith)
    by (suc q) e = omega arith

-- the least common multiple is at least the second number
pub common_least : (a b : ℕ) → 0 < a → b ≤ common a b
common_least a b h = by (a / gcd a b) (over_positive a (gcd a b) h (gcd_is a b).0)
  where
    by : (q : ℕ) → 0 < q → b ≤ q * b
    by zero l = absurd (omega arith)
    by (suc q) l = omega arith

-- the least common multiple of positive numbers is positive
pub common_positive : (a b : ℕ) → 0 < a → 0 < b → 0 < common a b
common_positive a b h k = let l = common_least a b h in omega arith

-- a least common denominator is positive
pub denominator_positive : (xs : List Rational) → 0 < common_denominator xs
denominator_positive [] = omega arith
denominator_positive (x ∷ xs) = common_positive x.den (common_denominator xs) x.positive (denominator_positive xs)

-- ---- quotients
pub quotient_of : (a m : ℕ) → a ∣ m → (k : ℕ) × (m ≡ a * k)
quotient_of a m d = (m / a, let e = div-mul_cancel a d in omega arith)

-- a product is divided by its factor
pub divides_from : (a m k : ℕ) → m ≡ a * k → a ∣ m
divides_from a m k e = subst (λ (z : ℕ). a ∣ z) (sym e) (dvd-mul_right a k)

-- ---- the least common multiple
-- what is left of two numbers over their greatest common divisor has no common divisor
pub lowest_coprime : (a b : ℕ) → 0 < b → Coprime (a / gcd a b) (b / gcd a b)
lowest_coprime a b p k h1 h2 =
    let g : ℕ = gcd a b in
    let G : IsGcd a b g = gcd_is a b in
    let x : k * g ∣ a = subst (λ (x : ℕ). k * g ∣ x) (div-mul_cancel g G.0) (mul-dvd-mul_right k h1 g) in
    let y : k * g ∣ b = subst (λ (x : ℕ). k * g ∣ x) (div-mul_cancel g G.1) (mul-dvd-mul_right k h2 g) in
    let z : k * g ∣ g = G.2 (k * g) x y in
    let z' : k * g ∣ 1 * g = subst (λ (x : ℕ). k * g ∣ x) (omega arith) z in
    eq-one_of_dvd-one (dvd_of_mul-dvd-mul_right k (gcd_pos a b p) z')

-- with a = g * p and b = g * q, from a * x = b * y
cancelled : (a b g p q x y : ℕ) → 0 < g → p * g ≡ a → q * g ≡ b → a * x ≡ b * y → q * y ≡ p * x
cancelled a b g p q x y l e f h =
    eq_of_mul-eq-mul_left g l (q * y) (p * x)
    (let l1 : g * (q * y) ≡ b * y = (let s : g * (q * y) ≡ (q * g) * y = omega arith in s) ∙ ap (λ (z : ℕ). z * y) f in
    let l2 : g * (p * x) ≡ a * x = (let s : g * (p * x) ≡ (p * g) * x = omega arith in s) ∙ ap (λ (z : ℕ). z * x) e in
    l1 ∙ sym h ∙ sym l2)

-- the least common multiple divides each common multiple
common_divides : (a b m : ℕ) → 0 < b → a ∣ m → b ∣ m → common a b ∣ m
common_divides a b m l ax by =
    let x : ℕ = (quotient_of a m ax).0 in
    let e : m ≡ a * x = (quotient_of a m ax).1 in
    let y : ℕ = (quotient_of b m by).0 in
    let f : m ≡ b * y = (quotient_of b m by).1 in
    let g : ℕ = gcd a b in
    let G : IsGcd a b g = gcd_is a b in
    let p : ℕ = a / g in
    let q : ℕ = b / g in
    let k : (n : ℕ) × (y ≡ p * n) = gauss p q y x (lowest_coprime a b l) (cancelled a b g p q x y (gcd_pos a b l) (div-mul_cancel g G.0) (div-mul_cancel g G.1) (sym e ∙ f)) in
    divides_from (common a b) m k.0 (f ∙ ap (λ (z : ℕ). b * z) k.1 ∙ (let s : b * (p * k.0) ≡ (p * b) * k.0 = omega arith in s))

-- both divide it
left_divides : (a b : ℕ) → a ∣ common a b
left_divides a b =
    let g : ℕ = gcd a b in
    let G : IsGcd a b g = gcd_is a b in
    by g (a / g) (b / g) (div-mul_cancel g G.0) (div-mul_cancel g G.1)
  where
    by : (g p q : ℕ) → p * g ≡ a → q * g ≡ b → a ∣ p * b
    by g p q e f = divides_from a (p * b) q (ap (λ (z : ℕ). p * z) (sym f) ∙ (let s : p * (q * g) ≡ (p * g) * q = omega arith in s) ∙ ap (λ (z : ℕ). z * q) e)

-- each denominator divides the common one
pub den_divides : (xs : List Rational) (i : ℕ) (x : Rational) → i < length xs → (get_or xs i x).den ∣ common_denominator xs
den_divides [] i x l = absurd (omega arith)
den_divides (y ∷ xs) zero x l = left_divides y.den (common_denominator xs)
den_divides (y ∷ xs) (suc i) x l = dvd_trans _ (den_divides xs i x (omega arith)) (dvd-mul_left (common_denominator xs) (y.den / gcd y.den (common_denominator xs)))

-- and it divides each number that they all divide
pub denominator_divides : (xs : List Rational) (m : ℕ) → ((i : ℕ) (x : Rational) → i < length xs → (get_or xs i x).den ∣ m) → common_denominator xs ∣ m
denominator_divides [] m h = divides_from 1 m m (omega arith)
denominator_divides (y ∷ xs) m h = common_divides y.den (common_denominator xs) m (denominator_positive xs) (h 0 y (omega arith)) (denominator_divides xs m (λ i x l. h (suc i) x (omega arith)))
