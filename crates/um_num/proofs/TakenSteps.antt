-- The steps of sums and products of fractions that are in range.
use Rattle.std.proofs.Common.{◌≡◌, ◌≢◌, ℕ, zero, suc, ◌+◌, ◌*◌, ◌/◌, ◌<◌, ◌≤◌, ◌^◌, ℤ, pos, ◌*ℤ◌, ◌≤ℤ◌, arith, sym, ap, ◌∙◌, subst, refl, [], ◌∷◌, unsigned_abs, int_div, Result, Ok, Err}
use Rattle.std.specs.Result.{IsOk}
use Rattle.std.specs.Int.{IsGcd, ◌∣◌}
use Rattle.std.proofs.lemmas.Bool.{lt-ltb, cond-true}
use Rattle.std.proofs.lemmas.Int.{ints, unsigned_abs-mul}
use Rattle.std.proofs.lemmas.Nat.{mul-lt, mul-le}
use Rattle.std.proofs.lemmas.Nat.Gcd.{dvd_antisymm}
use Rattle.std.proofs.Math.Nat.{div-mul_cancel}
use lib.IntN.{nat_abs, pos-*ℤ-pos}
use Rattle.um_laws.specs.Divisors.{Coprime, gcd}
use Rattle.um_laws.specs.LowestTerms.{gcd_is, gcd_pos, quotient_pos, quotient_coprime}
use Rattle.um_laws.specs.Rational.{Rational, Is, reduce, add, mul, neg}
use Rattle.um_laws.proofs.Coprime.{coprime_swap}
use Rattle.um_laws.proofs.Ring.{ring, var, ◌⊕◌, ◌⊗◌, opp}
use Rattle.um_laws.proofs.WholeRing.{whole_ring, env}
use Rattle.um_laws.proofs.WholeLaws.{times_pos}
use Rattle.um_laws.proofs.RationalParts.{is_reduce, same_value, num_of_reduced, den_of_reduced}
use Rattle.um_laws.proofs.RationalField.{is_mul}
use Rattle.um_laws.proofs.RationalBounds.{Below, difference_num, difference_den, sum_steps as sum_steps_below}
use Rattle.um_num.specs.Numbers.{IsInRange, exact, stepped, then_step, lowest, sum_with, product_with}
use Rattle.um_num.specs.Fractions.{sum_steps, product_steps, summed, product}
use Rattle.um_num.specs.declared.exact.Op.{Op}
use Rattle.um_num.specs.declared.exact.Op.TheVariants.{Add, Sub, Mul}
use Rattle.um_num.proofs.Quotients.{quot_value}
use Rattle.um_num.proofs.Steps.{coprime_times, coprime_parts, scaled}
use Rattle.um_laws.proofs.RationalEquations.{by_ring}

-- ---- single steps
-- a step whose result is in range is taken
pub stepped_in : (op : Op) (a b : ℤ) → IsInRange (exact op a b) → stepped op a b ≡ Ok (exact op a b)
unfolding stepped
stepped_in op a b h = cond-true _ _ _ (lt-ltb (unsigned_abs (exact op a b)) (2 ^ 127) h)

sum_with_taken : (op : Op) (a b c f h : ℤ) → IsInRange (a *ℤ f) → IsInRange (c *ℤ h) → IsInRange (exact op (a *ℤ f) (c *ℤ h)) → IsInRange (b *ℤ f) → IsOk (sum_with op a b c f h)
unfolding sum_with
sum_with_taken op a b c f h r1 r2 r3 r4 = rw (stepped_in Mul a f r1, stepped_in Mul c h r2, stepped_in op (a *ℤ f) (c *ℤ h) r3, stepped_in Mul b f r4) refl

product_with_taken : (a b c d : ℤ) → IsInRange (a *ℤ c) → IsInRange (b *ℤ d) → IsOk (product_with a b c d)
unfolding product_with
product_with_taken a b c d r1 r2 = rw (stepped_in Mul a c r1, stepped_in Mul b d r2) refl

then_taken : {A B E : Type 0} (r : Result A E) (k : A → B) → IsOk r → IsOk (then_step r (λ x. Ok (k x)))
then_taken (Ok x) k h = refl
then_taken (Err e) k h = cc

-- ---- sums
abs_exact : (op : Op) (a b : ℤ) (n m : ℕ) → op ≢ Mul → unsigned_abs a < n → unsigned_abs b < m → unsigned_abs (exact op a b) < n + m
abs_exact Add a b n m d h k = grind (arith, ints)
abs_exact Sub a b n m d h k = grind (arith, ints)
abs_exact Mul a b n m d h k = absurd (d refl)

gcd_comm : (a b : ℕ) → gcd a b ≡ gcd b a
gcd_comm a b =
    let G : IsGcd a b (gcd a b) = gcd_is a b in
    let H : IsGcd b a (gcd b a) = gcd_is b a in
    dvd_antisymm (H.2 (gcd a b) G.1 G.0) (G.2 (gcd b a) H.1 H.0)

size_times : (a : ℤ) (f n : ℕ) → nat_abs a * f < n → unsigned_abs (a *ℤ pos f) < n
size_times a f n h = rw (unsigned_abs-mul a (pos f)) h

-- by the sizes of its steps a sum is taken
pub sum_taken_by : (op : Op) (x y : Rational) (n m : ℕ) → op ≢ Mul → n + m ≤ 2 ^ 127 → 0 < n → 0 < m
    → nat_abs x.num * (y.den / gcd y.den x.den) < n → nat_abs y.num * (x.den / gcd y.den x.den) < m → x.den * (y.den / gcd y.den x.den) < n → IsOk (summed op x y)
unfolding summed sum_steps lowest
sum_taken_by op x y n m d fits un um l r b =
    let g : ℕ = gcd y.den x.den in
    let f : ℕ = y.den / g in
    let h : ℕ = x.den / g in
    let s1 : unsigned_abs (x.num *ℤ pos f) < n = size_times x.num f n l in
    let s2 : unsigned_abs (y.num *ℤ pos h) < m = size_times y.num h m r in
    let s3 : unsigned_abs (exact op (x.num *ℤ pos f) (y.num *ℤ pos h)) < n + m = abs_exact op _ _ n m d s1 s2 in
    let s4 : unsigned_abs (pos x.den *ℤ pos f) < n = size_times (pos x.den) f n b in
    then_taken (sum_with op x.num (pos x.den) y.num (pos f) (pos h)) _ (sum_with_taken op x.num (pos x.den) y.num (pos f) (pos h) (omega arith) (omega arith) (omega arith) (omega arith))

-- a small number and what leads from it to a small number have a sum
pub sum_taken : (x p y : Rational) → Below (2 ^ 62) x → Below (2 ^ 62) y → y ≡ add x p → IsOk (summed Add x p)
sum_taken x p y hx hy e =
    let b = sum_steps_below (2 ^ 62) x p y hx hy e in
    let g : gcd p.den x.den ≡ gcd x.den p.den = gcd_comm p.den x.den in
    sum_taken_by Add x p (2 ^ 124) (2 ^ 125) (λ q. cc) (omega arith) (omega arith) (omega arith) (rw g (omega (arith, b.1))) (rw g (omega (arith, b.0))) (rw g (omega (arith, b.2)))

quotient_le : (a g : ℕ) → 0 < g → g ∣ a → a / g ≤ a
quotient_le a g u d = by (a / g) g (div-mul_cancel g d) u
  where
    by : (q g : ℕ) → q * g ≡ a → 0 < g → q ≤ a
    by q zero e u = absurd (omega arith)
    by q (suc g) e u = omega arith

-- and so have two small numbers, and a difference
pub small_taken : (op : Op) (x y : Rational) → op ≢ Mul → Below (2 ^ 62) x → Below (2 ^ 62) y → IsOk (summed op x y)
small_taken op x y d hx hy =
    let g : ℕ = gcd y.den x.den in
    let G : IsGcd y.den x.den g = gcd_is y.den x.den in
    let up : 0 < g = gcd_pos y.den x.den x.positive in
    let f = quotient_le y.den g up G.0 in
    let h = quotient_le x.den g up G.1 in
    let s1 = mul-le (nat_abs x.num) (y.den / g) (nat_abs x.num) y.den (omega arith) f in
    let t1 = mul-lt (nat_abs x.num) y.den (2 ^ 62) (2 ^ 62) hx.num hy.den in
    let s2 = mul-le (nat_abs y.num) (x.den / g) (nat_abs y.num) x.den (omega arith) h in
    let t2 = mul-lt (nat_abs y.num) x.den (2 ^ 62) (2 ^ 62) hy.num hx.den in
    let s3 = mul-le x.den (y.den / g) x.den y.den (omega arith) f in
    let t3 = mul-lt x.den y.den (2 ^ 62) (2 ^ 62) hx.den hy.den in
    sum_taken_by op x y (2 ^ 124) (2 ^ 124) d (omega arith) (omega arith) (omega arith) (omega arith) (omega arith) (omega arith)

-- ---- products

-- a number is the fraction in lowest terms that stands for it
parts_are : (x : Rational) (n : ℤ) (d : ℕ) → 0 < d → Coprime (nat_abs n) d → Is x n d → (n ≡ x.num) × (d ≡ x.den)
parts_are x n d up co h =
    let same : reduce n d ≡ x = same_value (reduce n d) x n d up (is_reduce n d up) h in
    let one : pos 1 ≤ℤ pos d = omega (arith, ints) in
    (sym (num_of_reduced n (pos d) one co) ∙ ap (λ (z : Rational). z.num) same, (let e = den_of_reduced n (pos d) one co ∙ refl in let f : pos (reduce n d).den ≡ pos d = e in let g : (reduce n d).den ≡ d = omega (arith, ints) in sym g ∙ ap (λ (z : Rational). z.den) same))

-- a product whose parts are in range is taken, as it is divided crosswise first
pub product_taken : (x y : Rational) → nat_abs (mul x y).num < 2 ^ 127 → (mul x y).den < 2 ^ 127 → IsOk (product x y)
unfolding product product_steps lowest
product_taken x y hn hd =
    let g : ℕ = gcd (unsigned_abs x.num) y.den in
    let G : IsGcd (unsigned_abs x.num) y.den g = gcd_is (unsigned_abs x.num) y.den in
    let ug : 0 < g = gcd_pos (unsigned_abs x.num) y.den y.positive in
    let h : ℕ = gcd (unsigned_abs y.num) x.den in
    let H : IsGcd (unsigned_abs y.num) x.den h = gcd_is (unsigned_abs y.num) x.den in
    let uh : 0 < h = gcd_pos (unsigned_abs y.num) x.den x.positive in
    let a : ℤ = int_div x.num (pos g) in
    let c : ℤ = int_div y.num (pos h) in
    let b : ℕ = x.den / h in
    let d : ℕ = y.den / g in
    let ea : a *ℤ pos g ≡ x.num = quot_value x.num g ug G.0 in
    let ec : c *ℤ pos h ≡ y.num = quot_value y.num h uh H.0 in
    let eb : b * h ≡ x.den = div-mul_cancel h H.1 in
    let ed : d * g ≡ y.den = div-mul_cancel g G.1 in
    let den : x.den * y.den ≡ (b * d) * (g * h) = ap (λ (z : ℕ). z * y.den) (sym eb) ∙ ap (λ (z : ℕ). (b * h) * z) (sym ed) ∙ omega arith in
    let num : x.num *ℤ y.num ≡ (a *ℤ c) *ℤ pos (g * h) =
    ap (λ (z : ℤ). z *ℤ y.num) (sym ea) ∙ ap (λ (z : ℤ). (a *ℤ pos g) *ℤ z) (sym ec)
    ∙ ring whole_ring (env (a ∷ pos g ∷ c ∷ pos h ∷ [])) ((var 0 ⊗ var 1) ⊗ (var 2 ⊗ var 3)) ((var 0 ⊗ var 2) ⊗ (var 1 ⊗ var 3)) refl
    ∙ ap (λ (z : ℤ). (a *ℤ c) *ℤ z) (pos-*ℤ-pos g h) in
    let up : 0 < b * d = times_pos b d (quotient_pos x.den x.den h x.positive H.1) (quotient_pos y.den y.den g y.positive G.1) in
    let sa : unsigned_abs a * g ≡ unsigned_abs x.num = sym (unsigned_abs-mul a (pos g)) ∙ ap unsigned_abs ea in
    let sc : unsigned_abs c * h ≡ unsigned_abs y.num = sym (unsigned_abs-mul c (pos h)) ∙ ap unsigned_abs ec in
    let ss : unsigned_abs (a *ℤ c) ≡ unsigned_abs a * unsigned_abs c = unsigned_abs-mul a c in
    let a_b : Coprime (unsigned_abs a) b = coprime_parts (unsigned_abs x.num) x.den (unsigned_abs a) b g h x.reduced sa eb in
    let a_d : Coprime (unsigned_abs a) d = quotient_coprime x.num y.den y.positive in
    let c_b : Coprime (unsigned_abs c) b = quotient_coprime y.num x.den x.positive in
    let c_d : Coprime (unsigned_abs c) d = coprime_parts (unsigned_abs y.num) y.den (unsigned_abs c) d h g y.reduced sc ed in
    let ac_b : Coprime (unsigned_abs a * unsigned_abs c) b = coprime_times (unsigned_abs a) (unsigned_abs c) b a_b c_b in
    let ac_d : Coprime (unsigned_abs a * unsigned_abs c) d = coprime_times (unsigned_abs a) (unsigned_abs c) d a_d c_d in
    let all : Coprime (b * d) (unsigned_abs a * unsigned_abs c) = coprime_times b d (unsigned_abs a * unsigned_abs c) (coprime_swap _ b ac_b) (coprime_swap _ d ac_d) in
    let co : Coprime (unsigned_abs (a *ℤ c)) (b * d) = subst (λ (z : ℕ). Coprime z (b * d)) (sym ss) (coprime_swap (b * d) _ all) in
    let is = parts_are (mul x y) (a *ℤ c) (b * d) up co (scaled (mul x y) (x.num *ℤ y.num) (a *ℤ c) (x.den * y.den) (b * d) (g * h) (times_pos g h ug uh) (is_mul x y x.num y.num x.den y.den refl refl) num den) in
    let rn : unsigned_abs (a *ℤ c) < 2 ^ 127 = subst (λ (z : ℤ). unsigned_abs z < 2 ^ 127) (sym is.0) hn in
    let rd : unsigned_abs (pos b *ℤ pos d) < 2 ^ 127 = size_times (pos b) d (2 ^ 127) (omega (arith, is.1)) in
    then_taken (product_with a (pos b) c (pos d)) _ (product_with_taken a (pos b) c (pos d) rn rd)

-- what leads from a small number to a small number is in range
pub change_num : (x p y : Rational) → Below (2 ^ 62) x → Below (2 ^ 62) y → y ≡ add x p → nat_abs p.num < 2 ^ 127
change_num x p y hx hy e =
    let back : p ≡ add y (neg x) = by_ring (x ∷ p ∷ []) (var 1) ((var 0 ⊕ var 1) ⊕ opp (var 0)) refl ∙ ap (λ (z : Rational). add z (neg x)) (sym e) in
    let b = difference_num (2 ^ 62) x y p hx hy back in omega arith

pub change_den : (x p y : Rational) → Below (2 ^ 62) x → Below (2 ^ 62) y → y ≡ add x p → p.den < 2 ^ 127
change_den x p y hx hy e =
    let back : p ≡ add y (neg x) = by_ring (x ∷ p ∷ []) (var 1) ((var 0 ⊕ var 1) ⊕ opp (var 0)) refl ∙ ap (λ (z : Rational). add z (neg x)) (sym e) in
    let b = difference_den (2 ^ 62) x y p hx hy back in omega arith

-- a product that leads from a small number to a small number is taken
pub change_taken : (x e t y : Rational) → Below (2 ^ 62) x → Below (2 ^ 62) y → y ≡ add x (mul e t) → IsOk (product e t)
change_taken x e t y hx hy h = product_taken e t (change_num x (mul e t) y hx hy h) (change_den x (mul e t) y hx hy h)

-- the number that is added to a small number, where the sum is small
pub change_fits : (x p : Rational) → Below (2 ^ 62) x → Below (2 ^ 62) (add x p) → Below (2 ^ 127) p
change_fits x p hx hy = record { num = change_num x p (add x p) hx hy refl; den = change_den x p (add x p) hx hy refl }

-- a result is Ok where the one that it equals is
pub taken_as : {A E : Type 0} (r s : Result A E) → r ≡ s → IsOk s → IsOk r
taken_as r s e h = rw e h
