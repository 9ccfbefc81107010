-- The words of numbers are words, and their parts are read as the numbers that were written.
use Rattle.std.proofs.Common.{◌≡◌, ◌≢◌, inl, inr, ℕ, suc, ◌+◌, ◌<◌, ◌^◌, nat_eq, nat_le, Bool, true, false, List, [], ◌∷◌, ◌++◌, length, length-append, take, drop, ℤ, pos, negsuc, Ok, refl, ap, ◌∙◌, arith}
use Rattle.std.specs.Fmt.{decimal, signed_decimal}
use Rattle.std.specs.List.{list_all, list_any, before_first, after_first, position_or_len}
use Rattle.std.proofs.lemmas.Bool.{cases_Bool, and_parts, and_from, or_from, not_from_false, ne_eqb, eq-eqb, eqb-true, eqb-false, leb-true, lt-ltb, or_parts}
use Rattle.std.proofs.lemmas.List.Folds.{list_all-append}
use Rattle.um_laws.specs.Rational.{Rational}
use Rattle.um_num.specs.Numbers.{IsInRange}
use Rattle.um_text.specs.Numerals.{is_digit, whole_number}
use Rattle.um_text.specs.NumberWords.{fraction_word, is_slash}
use Rattle.um_text.specs.Words.{is_word, is_word_byte}
use Rattle.um_text.proofs.ReadBack.{written, read_back}

-- ---- lists cut at the first of a kind

place_on : {X : Type 0} (p : X → Bool) (x : X) (xs : List X) → p x ≡ false → position_or_len p (x ∷ xs) ≡ suc (position_or_len p xs)
place_on p x xs e = rw e (omega arith)

record IsCut {X : Type 0} (p : X → Bool) (xs front back : List X) : Type 0 where
  front_is : before_first p xs ≡ front
  back_is : after_first p xs ≡ back

cut_on : {X : Type 0} (p : X → Bool) (x : X) (xs front back : List X) → p x ≡ false → IsCut p xs front back → IsCut p (x ∷ xs) (x ∷ front) back
cut_on {X = X} p x xs front back e rest =
    let place = place_on p x xs e in
    let next : position_or_len p (x ∷ xs) + 1 ≡ suc (position_or_len p xs + 1) = omega (arith, place) in
    record { front_is = ap (λ n. take n (x ∷ xs)) place ∙ ap (λ (ys : List X). x ∷ ys) rest.front_is; back_is = ap (λ n. drop n (x ∷ xs)) next ∙ rest.back_is }

cut_none : {X : Type 0} (p : X → Bool) (xs : List X) → list_any p xs ≡ false → IsCut p xs xs []
cut_none p [] t = record { front_is = refl; back_is = refl }
cut_none p (x ∷ xs) t =
    let both = or_parts (p x) (list_any p xs) t in
    cut_on p x xs xs [] both.0 (cut_none p xs both.1)

cut_at : {X : Type 0} (p : X → Bool) (xs : List X) (y : X) (ys : List X) → list_any p xs ≡ false → p y ≡ true → IsCut p (xs ++ y ∷ ys) xs ys
cut_at p [] y ys t here = record { front_is = rw here refl; back_is = rw here refl }
cut_at p (x ∷ xs) y ys t here =
    let both = or_parts (p x) (list_any p xs) t in
    cut_on p x (xs ++ y ∷ ys) xs ys both.0 (cut_at p xs y ys both.1 here)

-- ---- digits

other_than : (b c : ℕ) → is_digit b ≡ true → c < 48 → nat_eq b c ≡ false
other_than b c t low =
    let both = and_parts (nat_le 48 b) (nat_le b 57) t in
    let least = leb-true 48 b both.0 in
    ne_eqb b c (λ e. absurd (omega (arith, e, least, low)))

digit_in_word : (b : ℕ) → is_digit b ≡ true → is_word_byte b ≡ true
digit_in_word b t = not_from_false _ (or_from _ _ (or_from _ _ (or_from _ _ (other_than b 32 t (omega arith)) (other_than b 9 t (omega arith))) (other_than b 13 t (omega arith))) (other_than b 10 t (omega arith)))

digits_in_word : (ds : List ℕ) → list_all is_digit ds ≡ true → list_all is_word_byte ds ≡ true
digits_in_word [] t = refl
digits_in_word (b ∷ ds) t =
    let both = and_parts (is_digit b) (list_all is_digit ds) t in
    and_from _ _ (digit_in_word b both.0) (digits_in_word ds both.1)

no_slash : (ds : List ℕ) → list_all is_digit ds ≡ true → list_any is_slash ds ≡ false
no_slash [] t = refl
no_slash (b ∷ ds) t =
    let both = and_parts (is_digit b) (list_all is_digit ds) t in
    or_from _ _ (other_than b 47 both.0 (omega arith)) (no_slash ds both.1)

-- ---- whole numbers

-- bytes of a word, at least one, and no slash
record IsNumeralWord (word : List ℕ) : Type 0 where
  bytes : list_all is_word_byte word ≡ true
  some : 0 < length word
  slash : list_any is_slash word ≡ false

numeral_digits : (n : ℕ) → n < 10 ^ 64 → IsNumeralWord (decimal n)
numeral_digits n h = let w = written n h in record { bytes = digits_in_word (decimal n) w.digits; some = w.some; slash = no_slash (decimal n) w.digits }

numeral_word : (z : ℤ) → IsInRange z → IsNumeralWord (signed_decimal z)
numeral_word (pos n) h = numeral_digits n (omega (arith, h))
numeral_word (negsuc n) h =
    let d = numeral_digits (suc n) (omega (arith, h)) in
    record { bytes = and_from _ _ refl d.bytes; some = omega arith; slash = or_from _ _ refl d.slash }

pub whole_word : (z : ℤ) → IsInRange z → is_word (signed_decimal z) ≡ true
whole_word z h = let p = numeral_word z h in and_from _ _ (lt-ltb 0 (length (signed_decimal z)) p.some) p.bytes

-- ---- fractions

-- a numeral before the slash, and what is behind it
parts_cut : (x : Rational) → IsInRange x.num → x.den ≢ 1 → IsCut is_slash (fraction_word x) (signed_decimal x.num) (decimal x.den)
parts_cut x h more = rw (ne_eqb x.den 1 more) (cut_at is_slash (signed_decimal x.num) 47 (decimal x.den) (numeral_word x.num h).slash refl)

whole_cut : (x : Rational) → IsInRange x.num → x.den ≡ 1 → IsCut is_slash (fraction_word x) (signed_decimal x.num) []
whole_cut x h one = rw (eq-eqb x.den 1 one) (cut_none is_slash (signed_decimal x.num) (numeral_word x.num h).slash)

pub num_back : (x : Rational) → IsInRange x.num → whole_number (before_first is_slash (fraction_word x)) ≡ Ok x.num
num_back x h =
    elim (cases_Bool (nat_eq x.den 1)) [
      | inl one ↦ ap whole_number (whole_cut x h (eqb-true x.den 1 one)).front_is ∙ read_back x.num h
      | inr more ↦ ap whole_number (parts_cut x h (eqb-false x.den 1 more)).front_is ∙ read_back x.num h
    ]

pub den_back : (x : Rational) → IsInRange x.num → x.den < 2 ^ 127 → x.den ≢ 1 → whole_number (after_first is_slash (fraction_word x)) ≡ Ok (pos x.den)
den_back x h k more = ap whole_number (parts_cut x h more).back_is ∙ read_back (pos x.den) k

pub no_den : (x : Rational) → IsInRange x.num → x.den ≡ 1 → after_first is_slash (fraction_word x) ≡ []
no_den x h one = (whole_cut x h one).back_is

pub fraction_is_word : (x : Rational) → IsInRange x.num → x.den < 2 ^ 127 → is_word (fraction_word x) ≡ true
fraction_is_word x h k =
    let p = numeral_word x.num h in
    let d = numeral_digits x.den (omega (arith, k)) in
    elim (cases_Bool (nat_eq x.den 1)) [
      | inl one ↦ rw one (whole_word x.num h)
      | inr more ↦
          let some : 0 < length (signed_decimal x.num ++ 47 ∷ decimal x.den) = omega (arith, length-append (signed_decimal x.num) (47 ∷ decimal x.den)) in
          let bytes = list_all-append is_word_byte (signed_decimal x.num) (47 ∷ decimal x.den) ∙ and_from _ _ p.bytes (and_from _ _ refl d.bytes) in
          rw more (and_from _ _ (lt-ltb 0 _ some) bytes)
    ]
