-- Numbers times their least common denominator are whole.
use Rattle.std.proofs.Common.{◌≡◌, ℕ, ◌+◌, ◌*◌, ◌<◌, arith, ap, sym, ◌∙◌, refl, List, [], ◌∷◌, length, take, drop}
use Rattle.std.specs.Prelude.{ℤ, pos, ◌*ℤ◌, ◌/◌, zero, suc, slice_index_or}
use Rattle.std.specs.Int.{◌∣◌}
use Rattle.std.proofs.lemmas.Int.{ints}
use Rattle.std.proofs.lemmas.List.{get_or-take}
use native.Mathlib.Nat.{div-mul_cancel}
use lib.IntN.{pos-*ℤ-pos}
use Rattle.um_laws.specs.Rational.{Rational, reduce, whole, mul}
use Rattle.um_laws.proofs.Ring.{var, ◌⊗◌}
use Rattle.um_laws.proofs.RationalField.{is_mul, is_whole}
use Rattle.um_laws.proofs.RationalParts.{same_value, is_reduce}
use Rattle.um_laws.proofs.WholeLaws.{times_pos}
use Rattle.um_laws.proofs.Places.{at_map, length-map}
use Rattle.um_num.specs.NumberLists.{number_at}
use Rattle.um_lp.specs.WideStates.{common_denominator}
use Rattle.um_laws.proofs.RationalEquations.{by_ring}
use Rattle.um_lp.proofs.Denominators.{den_divides}
use Rattle.um_lp.proofs.Orders.{whole_num, whole_den}
use Rattle.um_duality.specs.WholeMultiples.{times, whole_multiples}
use Rattle.um_duality.proofs.Wholes.{whole-mul, whole-same}

-- ---- a number and its parts

-- a number times its denominator is its numerator
num-of : (x : Rational) → mul x (whole (pos x.den)) ≡ whole x.num
num-of x =
    let w : Rational = whole x.num in
    let m : ℤ = x.num *ℤ pos x.den in
    same_value (mul x (whole (pos x.den))) w m (x.den * 1) (times_pos x.den 1 x.positive (omega arith))
    (is_mul x (whole (pos x.den)) x.num (pos x.den) x.den 1 refl (is_whole (pos x.den)))
    (let one : x.den * 1 ≡ x.den = omega arith in
    ap (λ (k : ℕ). w.num *ℤ pos k) one ∙ ap (λ (z : ℤ). z *ℤ pos x.den) (whole_num x.num) ∙ one_more m w.den (sym (whole_den x.num)))
  where
    one_more : (m : ℤ) (k : ℕ) → 1 ≡ k → m ≡ m *ℤ pos k
    one_more m k e = (let f : m ≡ m *ℤ pos 1 = omega (arith, ints) in f) ∙ ap (λ (z : ℕ). m *ℤ pos z) e

-- a whole number that is m times x, over m, is x
pub reduce-is : (n : ℤ) (m : ℕ) (x : Rational) → 0 < m → whole n ≡ mul (whole (pos m)) x → reduce n m ≡ x
reduce-is n m x h e =
    let f : whole (x.num *ℤ pos m) ≡ whole (n *ℤ pos x.den) =
    whole-mul x.num (pos m) ∙ ap (λ (z : Rational). mul z (whole (pos m))) (sym (num-of x))
    ∙ by_ring (x ∷ whole (pos x.den) ∷ whole (pos m) ∷ []) ((var 0 ⊗ var 1) ⊗ var 2) ((var 2 ⊗ var 0) ⊗ var 1) refl
    ∙ ap (λ (z : Rational). mul z (whole (pos x.den))) (sym e) ∙ sym (whole-mul n (pos x.den)) in
    same_value (reduce n m) x n m h (is_reduce n m h) (whole-same (x.num *ℤ pos m) (n *ℤ pos x.den) f)

-- a number times a multiple of its denominator
pub times-is : (multiple : ℕ) (x : Rational) → x.den ∣ multiple → whole (times multiple x) ≡ mul (whole (pos multiple)) x
times-is multiple x h =
    let q : ℕ = multiple / x.den in
    whole-mul x.num (pos q) ∙ ap (λ (z : Rational). mul z (whole (pos q))) (sym (num-of x))
    ∙ by_ring (x ∷ whole (pos x.den) ∷ whole (pos q) ∷ []) ((var 0 ⊗ var 1) ⊗ var 2) ((var 2 ⊗ var 1) ⊗ var 0) refl
    ∙ ap (λ (z : Rational). mul z x) (sym (whole-mul (pos q) (pos x.den)) ∙ ap whole (pos-*ℤ-pos q x.den ∙ ap pos (div-mul_cancel x.den h)))

-- ---- whole multiples

pub multiples-length : (xs : List Rational) → length (whole_multiples xs) ≡ length xs
multiples-length xs = length-map (times (common_denominator xs)) xs

pub multiple-is : (xs : List Rational) (i : ℕ) → i < length xs → whole (slice_index_or (whole_multiples xs) i (pos 0)) ≡ mul (whole (pos (common_denominator xs))) (number_at xs i)
multiple-is xs i l = ap whole (at_map (times (common_denominator xs)) xs i (whole (pos 0)) (pos 0) l) ∙ times-is (common_denominator xs) (number_at xs i) (den_divides xs i (whole (pos 0)) l)

-- ---- parts of lists

pub at_drop : {A : Type 0} (n : ℕ) (xs : List A) (i : ℕ) (default : A) → slice_index_or (drop n xs) i default ≡ slice_index_or xs (n + i) default
at_drop zero xs i default = let e : i ≡ 0 + i = omega arith in ap (λ (k : ℕ). slice_index_or xs k default) e
at_drop (suc n) [] i default = refl
at_drop (suc n) (x ∷ xs) i default = let e : suc (n + i) ≡ suc n + i = omega arith in at_drop n xs i default ∙ ap (λ (k : ℕ). slice_index_or (x ∷ xs) k default) e

pub at_take : {A : Type 0} (n : ℕ) (xs : List A) (i : ℕ) (default : A) → i < n → slice_index_or (take n xs) i default ≡ slice_index_or xs i default
at_take n xs i default l = get_or-take n xs i default l
