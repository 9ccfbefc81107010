-- Lines in lowest terms.
use Rattle.std.proofs.Common.{◌≡◌, ℕ, ◌*◌, ◌<◌, ℤ, pos, ◌*ℤ◌, ◌≤ℤ◌, neg_ℤ, List, length, arith, unsigned_abs, sym, ◌∙◌, ap, subst, refl, negsuc}
use Rattle.um_laws.specs.Divisors.{gcd}
use Rattle.um_laws.specs.Rational.{Rational, Is, reduce, neg, whole}
use Rattle.um_laws.proofs.RationalParts.{is_reduce}
use Rattle.um_num.specs.Views.{rational}
use Rattle.um_num.specs.NumberLists.{number_at}
use Rattle.um_lines.proofs.LineValues.{number_in_line}
use Rattle.std.specs.Int.{◌∣◌}
use Rattle.std.proofs.lemmas.Int.{ints, unsigned_abs-mul}
use Rattle.std.proofs.Math.Nat.{mul-dvd-mul_right, dvd_of_mul-dvd-mul_right}
use native.Mathlib.Nat.{eq-one_of_dvd-one}
use Rattle.um_lines.specs.Lines.{whole_at, numbers_of, AreDividedBy}
use Rattle.um_lines.proofs.Wholes.{size_of_neg}
use Rattle.um_num.specs.Sizes.{AreLowest}

-- over 1
pub lowest_over_one : (nums : List ℤ) → AreLowest (pos 1) nums
lowest_over_one nums d h k = eq-one_of_dvd-one h

-- where the greatest common divisor is 1
pub lowest_already : (den shared : ℤ) (nums : List ℤ) → shared ≡ pos 1 → ((d : ℕ) → d ∣ unsigned_abs den → AreDividedBy d nums → d ∣ unsigned_abs shared) → AreLowest den nums
lowest_already den shared nums e most d h k = eq-one_of_dvd-one (subst (λ (z : ℤ). d ∣ unsigned_abs z) e (most d h k))

divides_product : (d s : ℕ) (q a : ℤ) (shared : ℤ) → unsigned_abs shared ≡ s → q *ℤ shared ≡ a → d ∣ unsigned_abs q → d * s ∣ unsigned_abs a
divides_product d s q a shared es e h = subst (λ (z : ℕ). d * s ∣ z) (ap (λ (z : ℕ). unsigned_abs q * z) (sym es) ∙ sym (unsigned_abs-mul q shared) ∙ ap unsigned_abs e) (mul-dvd-mul_right d h s)

-- numbers over their greatest common divisor
pub lowest_over : (den part shared : ℤ) (sums : ℕ → ℤ) (count : ℕ) (parts : List ℤ) → pos 1 ≤ℤ shared → length parts ≡ count → part *ℤ shared ≡ den → ((j : ℕ) → j < count → whole_at parts j *ℤ shared ≡ sums j)
    → ((d : ℕ) → d ∣ unsigned_abs den → ((j : ℕ) → j < count → d ∣ unsigned_abs (sums j)) → d ∣ unsigned_abs shared) → AreLowest part parts
lowest_over den part shared sums count parts up long e each most d h k =
    let s : ℕ = unsigned_abs shared in
    let us : 0 < s = omega (arith, ints) in
    let one : d * s ∣ s = most (d * s) (divides_product d s part den shared refl e h) (λ j l. divides_product d s (whole_at parts j) (sums j) shared refl (each j l) (k j (omega arith))) in
    let one' : d * s ∣ 1 * s = subst (λ (z : ℕ). d * s ∣ z) (let a : s ≡ 1 * s = omega arith in a) one in
    eq-one_of_dvd-one (dvd_of_mul-dvd-mul_right d us one')

-- a line over minus one of its numbers, where it has minus its denominator somewhere
pub lowest_turned : (den : ℤ) (size : ℕ) (nums out : List ℤ) (column place : ℕ) → length out ≡ length nums → column < length nums → place < length nums → whole_at nums place ≡ neg_ℤ den
    → ((j : ℕ) → j < length nums → unsigned_abs (whole_at out j) ≡ unsigned_abs (whole_at nums j)) → AreLowest den nums → (d : ℕ) → d ∣ size → AreDividedBy d out → d ≡ 1
lowest_turned den size nums out column place long lc lp own same lowest d h k =
    let each : AreDividedBy d nums = λ j l. subst (λ (z : ℕ). d ∣ z) (same j l) (k j (omega arith)) in
    lowest d (subst (λ (z : ℕ). d ∣ z) (ap unsigned_abs own ∙ size_of_neg den) (each place lp)) each

minus_num : (neg (whole (pos 1))).num ≡ neg_ℤ (pos 1)
unfolding neg whole reduce gcd
minus_num = refl

minus_den : (neg (whole (pos 1))).den ≡ 1
unfolding neg whole reduce gcd
minus_den = refl

-- what is minus one has minus the denominator above
minus_above : (a d : ℤ) → pos 1 ≤ℤ d → rational a d ≡ neg (whole (pos 1)) → a ≡ neg_ℤ d
minus_above a (negsuc d) up e = absurd (omega (arith, ints))
minus_above a (pos d) up e =
    let u : 0 < d = omega (arith, ints) in
    let h : Is (neg (whole (pos 1))) a d = subst (λ (x : Rational). Is x a d) e (is_reduce a d u) in
    let g : neg_ℤ (pos 1) *ℤ pos d ≡ a *ℤ pos 1 = ap (λ (z : ℤ). z *ℤ pos d) (sym minus_num) ∙ h ∙ ap (λ (n : ℕ). a *ℤ pos n) minus_den in
    omega (arith, ints, g)

pub minus_in_line : (den : ℤ) (nums : List ℤ) (xs : List Rational) (j : ℕ) → numbers_of den nums ≡ xs → j < length xs → pos 1 ≤ℤ den → number_at xs j ≡ neg (whole (pos 1)) → whole_at nums j ≡ neg_ℤ den
minus_in_line den nums xs j e l up z = minus_above (whole_at nums j) den up (sym (number_in_line den nums xs j e l) ∙ z)
