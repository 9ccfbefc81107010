-- A word that is a numeral is the numeral of its number as it is written.
use Rattle.std.proofs.Common.{◌≡◌, ◌≢◌, ℕ, zero, suc, ◌+◌, ◌-◌, ◌*◌, ◌/◌, ◌%◌, ◌^◌, ◌<◌, ◌≤◌, nat_eq, nat_le, nat_lt, Bool, true, false, not, ◌&&◌, ◌||◌, List, [], ◌∷◌, length, drop, get_or, slice_index, ℤ, pos, neg_ℤ, unsigned_abs, Option, Some, None, Ok, refl, sym, ap, ◌∙◌, subst, arith, inl, inr}
use Rattle.std.specs.Fmt.{decimal, signed_decimal}
use Rattle.std.specs.List.{list_all}
use Rattle.std.proofs.Math.Nat.{pow-suc, one-le-pow, pow-le-pow_right, mul-le-mul_right}
use Rattle.std.proofs.lemmas.Nat.{div-mul-add, mod-mul-add}
use Rattle.std.proofs.lemmas.Fmt.{decimal_digit}
use Rattle.std.proofs.lemmas.Bool.{cases_Bool, cases_lt, and_parts, leb-true, ltb-true, eqb-true, eqb-false, not-true, or_cases}
use Rattle.um_num.specs.Numbers.{IsInRange}
use Rattle.um_text.specs.Numerals.{is_digit, is_zero, is_positive, has_minus, places, signed, whole_value}
use Rattle.um_text.proofs.ReadBack.{IsWritten, written}
use Rattle.um_treetext.specs.declared.fault.TreeWord.TheVariants.{BadNumber}
use Rattle.um_treetext.specs.Words.{some_or, numeral}

-- ---- digits

digit_bounds : (b : ℕ) → is_digit b ≡ true → (48 ≤ b) × (b ≤ 57)
digit_bounds b t = let both = and_parts (nat_le 48 b) (nat_le b 57) t in (leb-true 48 b both.0, leb-true b 57 both.1)

places_below : (ds : List ℕ) → list_all is_digit ds ≡ true → places ds < 10 ^ length ds
unfolding places
places_below [] t = omega arith
places_below (b ∷ ds) t =
    let both = and_parts (is_digit b) (list_all is_digit ds) t in
    let ends = digit_bounds b both.0 in
    let p = 10 ^ length ds in
    let up : 10 ^ length (b ∷ ds) ≡ 10 * p = omega (arith, pow-suc 10 (length ds)) in
    let most : (b - 48) * p ≤ 9 * p = mul-le-mul_right p (omega (arith, ends.1)) in
    rw up (omega (arith, most, places_below ds both.1))

places_least : (b : ℕ) (ds : List ℕ) → 48 < b → 10 ^ length ds ≤ places (b ∷ ds)
unfolding places
places_least b ds up =
    let p = 10 ^ length ds in
    let least : 1 * p ≤ (b - 48) * p = mul-le-mul_right p (omega (arith, up)) in
    omega (arith, least)

-- digits of the same number, as many, are the same
same_digits : (xs ys : List ℕ) → list_all is_digit xs ≡ true → list_all is_digit ys ≡ true → length xs ≡ length ys → places xs ≡ places ys → xs ≡ ys
unfolding places
same_digits [] [] t u l e = refl
same_digits [] (y ∷ ys) t u l e = absurd (omega (arith, l))
same_digits (x ∷ xs) [] t u l e = absurd (omega (arith, l))
same_digits (x ∷ xs) (y ∷ ys) t u l e =
    let one = and_parts (is_digit x) (list_all is_digit xs) t in
    let two = and_parts (is_digit y) (list_all is_digit ys) u in
    let n : length ys ≡ length xs = omega (arith, l) in
    let p = 10 ^ length xs in
    let low : places xs < p = places_below xs one.1 in
    let high : places ys < p = subst (λ (k : ℕ). places ys < 10 ^ k) n (places_below ys two.1) in
    let all : (x - 48) * p + places xs ≡ (y - 48) * p + places ys = e ∙ ap (λ (k : ℕ). (y - 48) * 10 ^ k + places ys) n in
    let first : x - 48 ≡ y - 48 = sym (div-mul-add (x - 48) p (places xs) low) ∙ ap (λ (m : ℕ). m / p) all ∙ div-mul-add (y - 48) p (places ys) high in
    let rest : places xs ≡ places ys = sym (mod-mul-add (x - 48) p (places xs) low) ∙ ap (λ (m : ℕ). m % p) all ∙ mod-mul-add (y - 48) p (places ys) high in
    let a = digit_bounds x one.0 in
    let b = digit_bounds y two.0 in
    let same : x ≡ y = omega (arith, first, a.0, b.0) in
    ap (λ (d : ℕ). d ∷ xs) same ∙ ap (λ (l : List ℕ). y ∷ l) (same_digits xs ys one.1 two.1 (omega (arith, l)) rest)

not_longer : (n : ℕ) (xs ys : List ℕ) → 0 < n → IsWritten n xs → IsWritten n ys → length xs ≤ length ys
not_longer n [] ys up w v = omega arith
not_longer n (x ∷ xs) ys up w v =
    elim (cases_lt (length ys) (length (x ∷ xs))) [
      | inl below ↦
          let both = and_parts (is_digit x) (list_all is_digit xs) w.digits in
          let ends = digit_bounds x both.0 in
          let first : x ≢ 48 = w.first up in
          let least = places_least x xs (omega (arith, ends.0, first)) in
          let most = places_below ys v.digits in
          let power = pow-le-pow_right {n = 10} (omega arith) {i = length ys} {j = length xs} (omega (arith, below)) in
          absurd (omega (arith, least, most, power, w.value, v.value))
      | inr above ↦ above
    ]

pub same_written : (n : ℕ) (xs ys : List ℕ) → 0 < n → IsWritten n xs → IsWritten n ys → xs ≡ ys
same_written n xs ys up w v =
    let one = not_longer n xs ys up w v in
    let two = not_longer n ys xs up v w in
    same_digits xs ys w.digits v.digits (omega (arith, one, two)) (w.value ∙ sym v.value)

-- ---- whole numbers

record IsPositive (word : List ℕ) : Type 0 where
  written : IsWritten (places word) word
  above : 0 < places word

positive : (word : List ℕ) → is_positive word ≡ true → IsPositive word
positive word t =
    let both = and_parts (nat_lt 0 (length word) && not (nat_eq (slice_index word 0) 48)) (list_all is_digit word) t in
    let more = and_parts (nat_lt 0 (length word)) (not (nat_eq (slice_index word 0) 48)) both.0 in
    let some = ltb-true 0 (length word) more.0 in
    let other = eqb-false (slice_index word 0) 48 (not-true (nat_eq (slice_index word 0) 48) more.1) in
    record { written = record { digits = both.1; value = refl; some = some; first = λ up. other }; above = above word both.1 some other }
  where
    above : (ds : List ℕ) → list_all is_digit ds ≡ true → 0 < length ds → get_or ds 0 0 ≢ 48 → 0 < places ds
    above [] t some other = absurd (omega (arith, some))
    above (d ∷ ds) t some other =
        let both = and_parts (is_digit d) (list_all is_digit ds) t in
        let ends = digit_bounds d both.0 in
        let first : d ≢ 48 = other in
        let least = places_least d ds (omega (arith, ends.0, first)) in
        let one = one-le-pow (length ds) 10 (omega arith) in
        omega (arith, least, one)

zero_word : (word : List ℕ) → is_zero word ≡ true → (word ≡ decimal 0) × (places word ≡ 0)
unfolding places
zero_word word t =
    let both = and_parts (nat_eq (length word) 1) (nat_eq (slice_index word 0) 48) t in
    by word (eqb-true (length word) 1 both.0) (eqb-true (slice_index word 0) 48 both.1)
  where
    by : (w : List ℕ) → length w ≡ 1 → get_or w 0 0 ≡ 48 → (w ≡ decimal 0) × (places w ≡ 0)
    by [] l e = absurd (omega (arith, l))
    by (d ∷ []) l e = let is : d ≡ 48 = e in rw (is, decimal_digit 0 (omega arith)) (refl, omega arith)
    by (d ∷ c ∷ w) l e = absurd (omega (arith, l))

positive_word : (word : List ℕ) → is_positive word ≡ true → places word < 10 ^ 64 → word ≡ decimal (places word)
positive_word word t h = let p = positive word t in same_written (places word) word (decimal (places word)) p.above p.written (written (places word) h)

plain_word : (word : List ℕ) → (is_zero word || is_positive word) ≡ true → places word < 10 ^ 64 → word ≡ decimal (places word)
plain_word word t h =
    elim (or_cases (is_zero word) (is_positive word) t) [
      | inl z ↦ let is = zero_word word z in is.0 ∙ ap decimal (sym is.1)
      | inr p ↦ positive_word word p h
    ]

minus_word : (word : List ℕ) → has_minus word ≡ true → word ≡ 45 ∷ drop 1 word
minus_word [] t = absurd (let bad = t in cc)
minus_word (b ∷ bs) t = ap (λ (c : ℕ). c ∷ bs) (eqb-true b 45 t)

below_zero : (n : ℕ) → 0 < n → signed_decimal (neg_ℤ (pos n)) ≡ 45 ∷ decimal n
below_zero zero up = absurd (omega (arith, up))
below_zero (suc n) up = refl

size_of : (negative : Bool) (n : ℕ) → unsigned_abs (signed negative n) ≡ n
size_of true zero = refl
size_of true (suc n) = refl
size_of false n = refl

value_rewritten : (word : List ℕ) (z : ℤ) → whole_value word ≡ Some z → IsInRange z → word ≡ signed_decimal z
value_rewritten word z e h =
    elim (cases_Bool (is_zero word || is_positive word)) [
      | inl t ↦
          let some : Some (signed false (places word)) ≡ Some z = rw t at e in
          let is : pos (places word) ≡ z = cc in
          let size : places word < 2 ^ 127 = subst (λ (x : ℤ). unsigned_abs x < 2 ^ 127) (sym is) h in
          plain_word word t (omega (arith, size)) ∙ ap signed_decimal is
      | inr f ↦
          elim (cases_Bool (has_minus word && is_positive (drop 1 word))) [
            | inl t ↦
                let both = and_parts (has_minus word) (is_positive (drop 1 word)) t in
                let some : Some (signed true (places (drop 1 word))) ≡ Some z = rw (f, t) at e in
                let is : signed true (places (drop 1 word)) ≡ z = cc in
                let p = positive (drop 1 word) both.1 in
                let size : places (drop 1 word) < 2 ^ 127 = subst (λ (n : ℕ). n < 2 ^ 127) (size_of true (places (drop 1 word))) (subst (λ (x : ℤ). unsigned_abs x < 2 ^ 127) (sym is) h) in
                minus_word word both.0 ∙ ap (λ (ds : List ℕ). 45 ∷ ds) (positive_word (drop 1 word) both.1 (omega (arith, size))) ∙ sym (below_zero (places (drop 1 word)) p.above) ∙ ap signed_decimal is
            | inr g ↦ absurd (let bad = rw (f, g) at e in cc)
          ]
    ]

some_rewritten : (o : Option ℤ) (z : ℤ) → some_or BadNumber o ≡ Ok z → o ≡ Some z
some_rewritten None z e = absurd (let bad = e in cc)
some_rewritten (Some y) z e = let same : y ≡ z = cc in ap Some same

-- a numeral of a number in range is its numeral as it is written
pub numeral_rewritten : (word : List ℕ) (z : ℤ) → numeral word ≡ Ok z → IsInRange z → word ≡ signed_decimal z
unfolding numeral
numeral_rewritten word z e h = value_rewritten word z (some_rewritten (whole_value word) z e) h
