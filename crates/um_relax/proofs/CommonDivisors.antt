-- What divides all whole multiples of fractions of which one is 1 or -1.
use Rattle.std.proofs.Common.{◌≡◌, ℕ, zero, suc, ◌*◌, ◌/◌, ◌<◌, List, [], ◌∷◌, length, get_or, arith, sym, ap, ◌∙◌, subst}
use Rattle.std.specs.Prelude.{ℤ, pos, unsigned_abs}
use Rattle.std.specs.Int.{◌∣◌}
use Rattle.std.proofs.lemmas.Int.{unsigned_abs-mul}
use Rattle.std.proofs.lemmas.List.{get_or-map, length-map}
use Rattle.std.proofs.Math.Nat.{div-mul_cancel, dvd_trans}
use native.Mathlib.Nat.{eq-one_of_dvd-one, pos_of_dvd_of_pos, eq_of_mul-eq-mul_left}
use Rattle.um_laws.specs.LowestTerms.{gcd_is}
use Rattle.um_laws.proofs.Coprime.{gauss, coprime_swap}
use Rattle.um_laws.specs.Rational.{Rational}
use Rattle.um_lp.specs.WideStates.{common_denominator}
use Rattle.um_lp.proofs.Denominators.{denominator_positive, quotient_of, divides_from, den_divides, denominator_divides}
use Rattle.um_duality.specs.WholeMultiples.{times, whole_multiples, common_divisor}

-- ---- common divisors
divides_each : (zs : List ℤ) (i : ℕ) → i < length zs → common_divisor zs ∣ unsigned_abs (get_or zs i (pos 0))
divides_each [] i l = absurd (omega arith)
divides_each (z ∷ zs) zero l = (gcd_is (unsigned_abs z) (common_divisor zs)).0
divides_each (z ∷ zs) (suc i) l = dvd_trans _ (gcd_is (unsigned_abs z) (common_divisor zs)).1 (divides_each zs i (omega arith))

-- where g divides the multiple of a fraction, and L = g * M, the denominator divides M
den_divides_rest : (x : Rational) (L g M : ℕ) → 0 < g → x.den ∣ L → L ≡ g * M → g ∣ unsigned_abs (times L x) → x.den ∣ M
den_divides_rest x L g M l d e dt =
    let k : ℕ = (quotient_of g (unsigned_abs (times L x)) dt).0 in
    let f : unsigned_abs (times L x) ≡ g * k = (quotient_of g (unsigned_abs (times L x)) dt).1 in
    let c : ℕ = L / x.den in
    let h : c * x.den ≡ L = div-mul_cancel x.den d in
    let n : ℕ = unsigned_abs x.num in
    let size : n * c ≡ g * k = sym (unsigned_abs-mul x.num (pos c)) ∙ f in
    let both : g * (n * M) ≡ g * (x.den * k) = by n c x.den g M k size (h ∙ e) in
    let r : (m : ℕ) × (M ≡ x.den * m) = gauss x.den n M k (coprime_swap n x.den x.reduced) (eq_of_mul-eq-mul_left g l (n * M) (x.den * k) both) in
    divides_from x.den M r.0 r.1
  where
    by : (n c den g M k : ℕ) → n * c ≡ g * k → c * den ≡ g * M → g * (n * M) ≡ g * (den * k)
    by n c den g M k s t =
        (let a : g * (n * M) ≡ n * (g * M) = omega arith in a) ∙ ap (λ (z : ℕ). n * z) (sym t) ∙ (let a : n * (c * den) ≡ (n * c) * den = omega arith in a) ∙ ap (λ (z : ℕ). z * den) s ∙ omega arith

-- the whole multiples of fractions, of which one has the common denominator as its size, have no common divisor
pub multiples_coprime : (xs : List Rational) (place : ℕ) → place < length xs → unsigned_abs (get_or (whole_multiples xs) place (pos 0)) ≡ common_denominator xs → common_divisor (whole_multiples xs) ≡ 1
multiples_coprime xs place l unit = by (subst (λ (n : ℕ). common_divisor (whole_multiples xs) ∣ n) unit (divides_each (whole_multiples xs) place (rw length-map l)))
  where
    multiple_at : (i : ℕ) (x : Rational) → i < length xs → common_divisor (whole_multiples xs) ∣ unsigned_abs (times (common_denominator xs) (get_or xs i x))
    multiple_at i x li =
        subst (λ (z : ℤ). common_divisor (whole_multiples xs) ∣ unsigned_abs z) (get_or-map (times (common_denominator xs)) xs i x (pos 0) li) (divides_each (whole_multiples xs) i (rw length-map li))

    one : (L g M q : ℕ) → 0 < L → L ≡ g * M → M ≡ L * q → g ≡ 1
    one L g M q p e f =
        let same : L * 1 ≡ L * (g * q) = (let a : L * 1 ≡ L = omega arith in a) ∙ e ∙ ap (λ (z : ℕ). g * z) f ∙ omega arith in
        eq-one_of_dvd-one (divides_from g 1 q (eq_of_mul-eq-mul_left L p 1 (g * q) same))

    by : common_divisor (whole_multiples xs) ∣ common_denominator xs → common_divisor (whole_multiples xs) ≡ 1
    by d =
        let L : ℕ = common_denominator xs in
        let g : ℕ = common_divisor (whole_multiples xs) in
        let M : ℕ = (quotient_of g L d).0 in
        let e : L ≡ g * M = (quotient_of g L d).1 in
        let gp : 0 < g = pos_of_dvd_of_pos d (denominator_positive xs) in
        let rest : L ∣ M = denominator_divides xs M (λ i x li. den_divides_rest (get_or xs i x) L g M gp (den_divides xs i x li) e (multiple_at i x li)) in
        one L g M (quotient_of L M rest).0 (denominator_positive xs) e (quotient_of L M rest).1
