-- In a line in lowest terms whose numbers are narrow, the denominator and the whole numbers are short.
use Rattle.std.proofs.Common.{◌≡◌, ℕ, zero, suc, negsuc, ◌*◌, ◌/◌, ◌<◌, ◌≤◌, ◌^◌, ℤ, pos, ◌≤ℤ◌, List, length, map, slice_index_or, arith, sym, ap, ◌∙◌, subst, unsigned_abs}
use Rattle.std.specs.Int.{IsGcd, ◌∣◌}
use Rattle.std.proofs.lemmas.Int.{ints, unsigned_abs-mul}
use Rattle.std.proofs.lemmas.List.{get_or-map, length-map}
use Rattle.std.proofs.Math.Nat.{div-mul_cancel}
use native.Mathlib.Nat.{eq_of_mul-eq-mul_right}
use lib.IntN.{nat_abs}
use Rattle.um_laws.specs.Divisors.{gcd, Coprime}
use Rattle.um_laws.specs.LowestTerms.{gcd_is, gcd_pos}
use Rattle.um_laws.specs.Rational.{Rational, Is, reduce, whole}
use Rattle.um_laws.proofs.Coprime.{gauss}
use Rattle.um_laws.proofs.RationalParts.{is_reduce}
use Rattle.um_num.specs.Views.{rational}
use Rattle.um_num.specs.NumberLists.{number_at}
use Rattle.um_lp.specs.WideStates.{common_denominator, AreNarrow}
use Rattle.um_num.specs.Sizes.{IsShort, AreShort, AreLowest}
use Rattle.um_lp.proofs.Denominators.{divides_from, den_divides, denominator_positive, lowest_coprime}
use Rattle.um_lp.proofs.NarrowNumbers.{narrow_den, narrow_num}

-- a number over d is the numerator N over a multiple C of its own denominator
crossed : (x : Rational) (n : ℤ) (d C : ℕ) → Is x n d → C / x.den * x.den ≡ C → unsigned_abs n * C ≡ (nat_abs x.num * (C / x.den)) * d
crossed x n d C h e = by (unsigned_abs n) x.den (nat_abs x.num) d C (C / x.den) (sym (unsigned_abs-mul x.num (pos d)) ∙ ap unsigned_abs h ∙ unsigned_abs-mul n (pos x.den)) e
  where
    by : (n b a d C q : ℕ) → a * d ≡ n * b → q * b ≡ C → n * C ≡ (a * q) * d
    by n b a d C q s t = ap (λ (z : ℕ). n * z) (sym t) ∙ (let u : n * (q * b) ≡ (n * b) * q = omega arith in u) ∙ ap (λ (z : ℕ). z * q) (sym s) ∙ omega arith

-- what the numbers of a line say of its whole numbers: each times C is a numerator below the bound times d
abbrev pub AreOver : ℕ → ℕ → ℕ → List ℤ → Type 0
AreOver bound C d nums = (j : ℕ) → j < length nums → (N : ℕ) × (N < bound) × (unsigned_abs (slice_index_or nums j (pos 0)) * C ≡ N * d)

-- with p * g = d and q * g = C
part_divides : (n N C d p q g : ℕ) → 0 < g → p * g ≡ d → q * g ≡ C → Coprime p q → n * C ≡ N * d → p ∣ n
part_divides n N C d p q g up ep eq co h =
    let s : q * n ≡ p * N = eq_of_mul-eq-mul_right g up (q * n) (p * N) ((let a : (q * n) * g ≡ n * (q * g) = omega arith in a) ∙ ap (λ (z : ℕ). n * z) eq ∙ h ∙ ap (λ (z : ℕ). N * z) (sym ep) ∙ omega arith) in
    let k = gauss p q n N co s in
    divides_from p n k.0 k.1

-- the denominator of a line in lowest terms divides C
den_is_part : (bound C d : ℕ) (nums : List ℤ) → 0 < d → 0 < C → AreOver bound C d nums → ((k : ℕ) → k ∣ d → ((j : ℕ) → j < length nums → k ∣ unsigned_abs (slice_index_or nums j (pos 0))) → k ≡ 1) → (q : ℕ) × (q * d ≡ C)
den_is_part bound C d nums ud uC over lowest =
    let g : ℕ = gcd d C in
    let G : IsGcd d C g = gcd_is d C in
    let p : ℕ = d / g in
    let q : ℕ = C / g in
    let up : 0 < g = gcd_pos d C uC in
    let ep : p * g ≡ d = div-mul_cancel g G.0 in
    let eq : q * g ≡ C = div-mul_cancel g G.1 in
    let one : p ≡ 1 = lowest p (divides_from p d g (sym ep)) (λ j l. let o = over j l in part_divides (unsigned_abs (slice_index_or nums j (pos 0))) o.0 C d p q g up ep eq (lowest_coprime d C uC) o.2) in
    let same : g ≡ d = (let a : g ≡ 1 * g = omega arith in a) ∙ ap (λ (z : ℕ). z * g) (sym one) ∙ ep in
    (q, ap (λ (z : ℕ). q * z) (sym same) ∙ eq)

least_one : (q d C : ℕ) → q * d ≡ C → 0 < C → d ≤ C
least_one zero d C e u = absurd (omega arith)
least_one (suc q) d C e u = omega arith

-- |n| * C = N * d with C = q * d says |n| * q = N
num_below : (bound n N q d C : ℕ) → 0 < d → 0 < C → q * d ≡ C → n * C ≡ N * d → N < bound → n < bound
num_below bound n N zero d C ud uC e h b = absurd (omega arith)
num_below bound n N (suc q) d C ud uC e h b =
    let s : n * suc q ≡ N = eq_of_mul-eq-mul_right d ud (n * suc q) N ((let a : (n * suc q) * d ≡ n * (suc q * d) = omega arith in a) ∙ ap (λ (z : ℕ). n * z) e ∙ h) in
    omega arith

short_counts : (bound C d : ℕ) (nums : List ℤ) → 0 < d → 0 < C → C < bound → AreOver bound C d nums → ((k : ℕ) → k ∣ d → ((j : ℕ) → j < length nums → k ∣ unsigned_abs (slice_index_or nums j (pos 0))) → k ≡ 1)
    → (d < bound) × ((j : ℕ) → j < length nums → unsigned_abs (slice_index_or nums j (pos 0)) < bound)
short_counts bound C d nums ud uC b over lowest =
    let q = den_is_part bound C d nums ud uC over lowest in
    ((let l = least_one q.0 d C q.1 uC in omega arith), λ j l. let o = over j l in num_below bound (unsigned_abs (slice_index_or nums j (pos 0))) o.0 q.0 d C ud uC q.1 o.2 o.1)

size_up : (b : ℤ) → pos 1 ≤ℤ b → 0 < nat_abs b
size_up (pos n) h = omega (arith, ints)
size_up (negsuc n) h = absurd (omega (arith, ints))

-- the whole numbers of a narrow line
pub short_line : (den : ℤ) (nums : List ℤ) → pos 1 ≤ℤ den → AreLowest den nums → AreNarrow (map (λ num. rational num den) nums) → IsShort den × AreShort nums
short_line den nums up lowest narrow =
    let xs : List Rational = map (λ num. rational num den) nums in
    let C : ℕ = common_denominator xs in
    let ud : 0 < nat_abs den = size_up den up in
    let long : length xs ≡ length nums = length-map nums (λ (num : ℤ). rational num den) in
    short_counts (2 ^ 62) C (nat_abs den) nums ud (denominator_positive xs) (narrow_den xs narrow)
    (λ j l.
    let lx : j < length xs = omega arith in
    let e : number_at xs j ≡ reduce (slice_index_or nums j (pos 0)) (nat_abs den) = get_or-map (λ (num : ℤ). rational num den) nums j (pos 0) (whole (pos 0)) l in
    let is : Is (number_at xs j) (slice_index_or nums j (pos 0)) (nat_abs den) = subst (λ (x : Rational). Is x (slice_index_or nums j (pos 0)) (nat_abs den)) (sym e) (is_reduce (slice_index_or nums j (pos 0)) (nat_abs den) ud) in
    (nat_abs (number_at xs j).num * (C / (number_at xs j).den), narrow_num xs j lx narrow, crossed (number_at xs j) (slice_index_or nums j (pos 0)) (nat_abs den) C is (div-mul_cancel (number_at xs j).den (den_divides xs j (whole (pos 0)) lx))))
    lowest
