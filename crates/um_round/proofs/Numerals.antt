-- A written numeral is read as the number that was written.
use Rattle.std.proofs.Common.{◌≡◌, ◌≢◌, ◌⊎◌, inl, inr, ℕ, zero, suc, ◌+◌, ◌-◌, ◌*◌, ◌/◌, ◌%◌, ◌^◌, ◌<◌, ◌≤◌, nat_eq, nat_le, nat_lt, Bool, true, false, ◌||◌, List, [], ◌∷◌, ◌++◌, append_assoc, length, length-append, drop, ℤ, pos, negsuc, neg_ℤ, ◌+ℤ◌, ◌-ℤ◌, ◌*ℤ◌, unsigned_abs, Some, Ok, refl, sym, ap, ◌∙◌, arith, true≢false, take}
use Rattle.std.specs.Fmt.{decimal}
use Rattle.std.specs.List.{list_all, list_any, before_first, after_first, position_or_len}
use Rattle.std.proofs.Math.Nat.{pow-suc, pow-succ', one-le-pow, pow-le-pow_right, div-div-eq-div-mul, div-le_self, mul-le-mul_right}
use Rattle.std.proofs.lemmas.Nat.{pow-add}
use Rattle.std.proofs.lemmas.Int.{ints}
use Rattle.std.proofs.lemmas.Bool.{cases_lt, cond-true, cond-false, and_from, and_parts, or_from, not_from_false, ne_eqb, eqb-true, eqb-false, leb-true, le-leb, lt-ltb}
use Rattle.std.proofs.lemmas.Fmt.{decimal_by_steps_wide}
use Rattle.std.proofs.lemmas.List.{append-nil}
use Rattle.std.proofs.lemmas.List.Folds.{list_all-append, list_any-append}
use Rattle.um_text.specs.Numerals.{is_digit, has_minus, places, signed}
use Rattle.um_text.specs.Words.{is_word, is_word_byte, has_bytes}
use Rattle.um_text.specs.Decimals.{is_sign, is_point, is_mark, unsigned, is_decimal, exponent_value, normal, decimal_value, fits, fitting, decimal_number}
use Rattle.um_laws.proofs.WholeRing.{neg_mul}
use Rattle.um_text.proofs.Places.{places-append}
use Rattle.um_text.proofs.NormalForm.{normal_is, abs-signed}
use Rattle.um_statements.specs.Scaled.{at_least_zero, times_ten, decimals}
use Rattle.um_decktext.specs.Numbers.{number}
use Rattle.um_make.specs.Numerals.{last_digits, size_numeral, numeral}
use Rattle.um_round.specs.Numerals.{written}

-- ---- lists cut at the first of a kind

place_on : {X : Type 0} (p : X → Bool) (x : X) (xs : List X) → p x ≡ false → position_or_len p (x ∷ xs) ≡ suc (position_or_len p xs)
place_on p x xs e = rw e (omega arith)

cut_on : {X : Type 0} (p : X → Bool) (x : X) (xs front back : List X) → p x ≡ false → (before_first p xs ≡ front) × (after_first p xs ≡ back) → (before_first p (x ∷ xs) ≡ x ∷ front) × (after_first p (x ∷ xs) ≡ back)
cut_on {X = X} p x xs front back e rest =
    let place = place_on p x xs e in
    let next : position_or_len p (x ∷ xs) + 1 ≡ suc (position_or_len p xs + 1) = omega (arith, place) in
    (ap (λ n. take n (x ∷ xs)) place ∙ ap (λ (ys : List X). x ∷ ys) rest.0, ap (λ n. drop n (x ∷ xs)) next ∙ rest.1)

before_none : {X : Type 0} (p : X → Bool) (xs : List X) → list_any p xs ≡ false → (before_first p xs ≡ xs) × (after_first p xs ≡ [])
before_none p [] none = (refl, refl)
before_none {X = X} p (x ∷ xs) none = by (p x) refl (before_none p xs) none
  where
    by : (b : Bool) → p x ≡ b → (list_any p xs ≡ false → (before_first p xs ≡ xs) × (after_first p xs ≡ [])) → (b || list_any p xs) ≡ false → (before_first p (x ∷ xs) ≡ x ∷ xs) × (after_first p (x ∷ xs) ≡ [])
    by true e more none = absurd (true≢false none)
    by false e more none = cut_on p x xs xs [] e (more none)

before_at : {X : Type 0} (p : X → Bool) (xs : List X) (y : X) (ys : List X) → list_any p xs ≡ false → p y ≡ true → (before_first p (xs ++ y ∷ ys) ≡ xs) × (after_first p (xs ++ y ∷ ys) ≡ ys)
before_at p [] y ys none t = rw t (refl, refl)
before_at {X = X} p (x ∷ xs) y ys none t = by (p x) refl (before_at p xs y ys) none
  where
    by : (b : Bool) → p x ≡ b → (list_any p xs ≡ false → p y ≡ true → (before_first p (xs ++ y ∷ ys) ≡ xs) × (after_first p (xs ++ y ∷ ys) ≡ ys)) → (b || list_any p xs) ≡ false → (before_first p (x ∷ (xs ++ y ∷ ys)) ≡ x ∷ xs) × (after_first p (x ∷ (xs ++ y ∷ ys)) ≡ ys)
    by true e more none = absurd (true≢false none)
    by false e more none = cut_on p x (xs ++ y ∷ ys) xs ys e (more none t)

-- ---- digits

digit_bounds : (b : ℕ) → is_digit b ≡ true → (48 ≤ b) × (b ≤ 57)
digit_bounds b t = let both = and_parts (nat_le 48 b) _ t in (leb-true _ _ both.0, leb-true _ _ both.1)

digit_other : (b c : ℕ) → is_digit b ≡ true → (c < 48) ⊎ (57 < c) → nat_eq b c ≡ false
digit_other b c t (inl low) = let ends = digit_bounds b t in ne_eqb b c (λ e. absurd (omega (arith, e, ends.0, low)))
digit_other b c t (inr high) = let ends = digit_bounds b t in ne_eqb b c (λ e. absurd (omega (arith, e, ends.1, high)))

no_mark : (b : ℕ) → is_digit b ≡ true → is_mark b ≡ false
no_mark b t = or_from _ _ (digit_other b 101 t (inr (omega arith))) (digit_other b 69 t (inr (omega arith)))

no_point : (b : ℕ) → is_digit b ≡ true → is_point b ≡ false
no_point b t = digit_other b 46 t (inl (omega arith))

no_sign : (b : ℕ) → is_digit b ≡ true → is_sign b ≡ false
no_sign b t = or_from _ _ (digit_other b 43 t (inl (omega arith))) (digit_other b 45 t (inl (omega arith)))

word_digit : (b : ℕ) → is_digit b ≡ true → is_word_byte b ≡ true
word_digit b t = not_from_false _ (or_from _ _ (or_from _ _ (or_from _ _ (digit_other b 32 t (inl (omega arith))) (digit_other b 9 t (inl (omega arith)))) (digit_other b 13 t (inl (omega arith)))) (digit_other b 10 t (inl (omega arith))))

none_in : (p : ℕ → Bool) → ((b : ℕ) → is_digit b ≡ true → p b ≡ false) → (ds : List ℕ) → list_all is_digit ds ≡ true → list_any p ds ≡ false
none_in p fails [] t = refl
none_in p fails (b ∷ ds) t = let both = and_parts (is_digit b) _ t in or_from _ _ (fails b both.0) (none_in p fails ds both.1)

word_digits : (ds : List ℕ) → list_all is_digit ds ≡ true → list_all is_word_byte ds ≡ true
word_digits [] t = refl
word_digits (b ∷ ds) t = let both = and_parts (is_digit b) _ t in and_from _ _ (word_digit b both.0) (word_digits ds both.1)

-- ---- whole numbers

record IsWhole (n : ℕ) (ds : List ℕ) : Type 0 where
  digits : list_all is_digit ds ≡ true
  value : places ds ≡ n
  some : 0 < length ds

digit_is : (d : ℕ) → d < 10 → is_digit (48 + d) ≡ true
digit_is d h = and_from _ _ (le-leb 48 (48 + d) (omega arith)) (le-leb (48 + d) 57 (omega arith))

one_digit : (n : ℕ) → n < 10 → IsWhole n ((48 + n) ∷ [])
unfolding places
one_digit n h = record { digits = and_from _ _ (digit_is n h) refl; value = omega arith; some = omega arith }

more_digits : (n : ℕ) (ds : List ℕ) → 10 ≤ n → IsWhole (n / 10) ds → IsWhole n (ds ++ ((48 + n % 10) ∷ []))
unfolding places
more_digits n ds h w =
    let d = n % 10 in
    let low : d < 10 = omega arith in
    record {
      digits = list_all-append is_digit ds ((48 + d) ∷ []) ∙ and_from _ _ w.digits (and_from _ _ (digit_is d low) refl);
      value = places-append ds ((48 + d) ∷ []) ∙ rw w.value (omega arith);
      some = omega (arith, length-append ds ((48 + d) ∷ []));
    }

whole : (n : ℕ) → n < 10 ^ 64 → IsWhole n (decimal n)
whole n h = decimal_by_steps_wide IsWhole one_digit more_digits n h

-- ---- digits behind the point

last_length : (k n : ℕ) → length (last_digits k n) ≡ k
last_length zero n = refl
last_length (suc k) n = omega (arith, length-append (last_digits k (n / 10)) ((48 + n % 10) ∷ []), last_length k (n / 10))

last_are_digits : (k n : ℕ) → list_all is_digit (last_digits k n) ≡ true
last_are_digits zero n = refl
last_are_digits (suc k) n = list_all-append is_digit (last_digits k (n / 10)) ((48 + n % 10) ∷ []) ∙ and_from _ _ (last_are_digits k (n / 10)) (and_from _ _ (digit_is (n % 10) (omega arith)) refl)

ten_div : (n k : ℕ) → n / 10 ^ suc k ≡ n / 10 / 10 ^ k
ten_div n k = ap (λ m. n / m) (pow-succ' 10 k) ∙ sym (div-div-eq-div-mul n 10 (10 ^ k))

last_value : (k n : ℕ) → n < 10 ^ 64 → places (decimal (n / 10 ^ k) ++ last_digits k n) ≡ n
unfolding places
last_value zero n h =
    let one : n / 10 ^ 0 ≡ n = omega arith in
    rw one (ap places (append-nil (decimal n)) ∙ (whole n h).value)
last_value (suc k) n h =
    let d = 48 + n % 10 in
    let front = decimal (n / 10 / 10 ^ k) in
    let back = last_digits k (n / 10) in
    let more : places (front ++ back) ≡ n / 10 = last_value k (n / 10) (omega arith) in
    rw (ten_div n k) (ap places (sym (append_assoc front back (d ∷ []))) ∙ places-append (front ++ back) (d ∷ []) ∙ rw more (omega arith))

-- ---- the parts of a numeral without a sign

abbrev tail_of : List ℕ → List ℕ
tail_of [] = []
tail_of (b ∷ bs) = 46 ∷ (b ∷ bs)

tail_some : (bs : List ℕ) → 0 < length bs → tail_of bs ≡ 46 ∷ bs
tail_some [] h = absurd (omega arith)
tail_some (b ∷ bs) h = refl

record IsSize (n k : ℕ) (word : List ℕ) : Type 0 where
  front : List ℕ
  back : List ℕ
  parts : word ≡ front ++ tail_of back
  digits : list_all is_digit front ≡ true
  more : list_all is_digit back ≡ true
  some : 0 < length front
  fine : length back ≤ k
  value : n ≡ places (front ++ back) * 10 ^ (k - length back)

size_parts : (k n : ℕ) → n < 10 ^ 64 → IsSize n k (size_numeral k n)
size_parts zero n h =
    let w = whole n h in
    let v : places (decimal n ++ []) ≡ n = ap places (append-nil (decimal n)) ∙ w.value in
    record { front = decimal n; back = []; parts = sym (append-nil (decimal n)); digits = w.digits; more = refl; some = w.some; fine = omega arith; value = omega (arith, v) }
size_parts (suc k) n h = by (nat_eq (n % 10) 0) refl (size_parts k (n / 10))
  where
    by : (b : Bool) → nat_eq (n % 10) 0 ≡ b → (n / 10 < 10 ^ 64 → IsSize (n / 10) k (size_numeral k (n / 10))) → IsSize n (suc k) (size_numeral (suc k) n)
    by true e rest =
        let r = rest (omega arith) in
        let j = k - length r.back in
        let next : suc k - length r.back ≡ suc j = omega (arith, r.fine) in
        let none : n % 10 ≡ 0 = eqb-true (n % 10) 0 e in
        let q = places (r.front ++ r.back) * 10 ^ j in
        let ten : places (r.front ++ r.back) * 10 ^ suc j ≡ q * 10 = rw (pow-suc 10 j) (omega arith) in
        record { front = r.front; back = r.back; parts = cond-true _ _ _ e ∙ r.parts; digits = r.digits; more = r.more; some = r.some; fine = omega (arith, r.fine); value = rw (next, ten) (omega (arith, r.value, none)) }
    by false e rest =
        let w = whole (n / 10 ^ suc k) (omega (arith, div-le_self n (10 ^ suc k), h)) in
        let size = last_length (suc k) n in
        let none : suc k - length (last_digits (suc k) n) ≡ 0 = omega (arith, size) in
        let v = last_value (suc k) n h in
        record {
          front = decimal (n / 10 ^ suc k);
          back = last_digits (suc k) n;
          parts = cond-false _ _ _ e ∙ ap (λ (t : List ℕ). decimal (n / 10 ^ suc k) ++ t) (sym (tail_some (last_digits (suc k) n) (omega (arith, size))));
          digits = w.digits;
          more = last_are_digits (suc k) n;
          some = w.some;
          fine = omega (arith, size);
          value = rw (none, v) (omega arith);
        }

-- ---- words

tail_words : (bs : List ℕ) → list_all is_digit bs ≡ true → list_all is_word_byte (tail_of bs) ≡ true
tail_words [] t = refl
tail_words (b ∷ bs) t = word_digits (b ∷ bs) t

size_word : {n k : ℕ} {word : List ℕ} → IsSize n k word → list_all is_word_byte word ≡ true
size_word p = ap (list_all is_word_byte) p.parts ∙ list_all-append is_word_byte p.front (tail_of p.back) ∙ and_from _ _ (word_digits p.front p.digits) (tail_words p.back p.more)

size_some : {n k : ℕ} {word : List ℕ} → IsSize n k word → has_bytes word ≡ true
size_some {word = word} p = lt-ltb 0 (length word) (omega (arith, ap length p.parts, length-append p.front (tail_of p.back), p.some))

pub numeral_word : (k : ℕ) (z : ℤ) → unsigned_abs z < 10 ^ 64 → is_word (numeral k z) ≡ true
unfolding numeral
numeral_word k (pos n) h = let p = size_parts k n h in and_from _ _ (size_some p) (size_word p)
numeral_word k (negsuc n) h = let p = size_parts k (suc n) h in and_from _ _ (lt-ltb 0 (length (45 ∷ size_numeral k (suc n))) (omega arith)) (size_word p)

-- ---- what is read

unsigned_is : (front rest : List ℕ) → 0 < length front → list_all is_digit front ≡ true → unsigned (front ++ rest) ≡ front ++ rest
unfolding unsigned
unsigned_is [] rest h t = absurd (omega arith)
unsigned_is (b ∷ front) rest h t = let both = and_parts (is_digit b) _ t in rw (no_sign b both.0) refl

unsigned_minus : (word : List ℕ) → unsigned (45 ∷ word) ≡ word
unfolding unsigned
unsigned_minus word = refl

tail_marks : (bs : List ℕ) → list_all is_digit bs ≡ true → list_any is_mark (tail_of bs) ≡ false
tail_marks [] t = refl
tail_marks (b ∷ bs) t = none_in is_mark no_mark (b ∷ bs) t

word_marks : (front back : List ℕ) → list_all is_digit front ≡ true → list_all is_digit back ≡ true → list_any is_mark (front ++ tail_of back) ≡ false
word_marks front back t u = list_any-append is_mark front (tail_of back) ∙ or_from _ _ (none_in is_mark no_mark front t) (tail_marks back u)

at_point : (front back : List ℕ) → list_all is_digit front ≡ true → (before_first is_point (front ++ tail_of back) ≡ front) × (after_first is_point (front ++ tail_of back) ≡ back)
at_point front [] t =
    let cut = before_none is_point front (none_in is_point no_point front t) in
    rw (append-nil front) cut
at_point front (b ∷ bs) t = before_at is_point front 46 (b ∷ bs) (none_in is_point no_point front t) refl

no_exponent : exponent_value [] ≡ pos 0
unfolding exponent_value unsigned places
no_exponent = refl

value_is : (word front back : List ℕ) → unsigned word ≡ front ++ tail_of back → list_all is_digit front ≡ true → list_all is_digit back ≡ true → 0 < length front
    → decimal_value word ≡ Some (normal (has_minus word) (places (front ++ back)) (pos 0 -ℤ pos (length back)))
unfolding decimal_value is_decimal
value_is word front back e t u some =
    let marks = word_marks front back t u in
    let cut = before_none is_mark (front ++ tail_of back) marks in
    let point = at_point front back t in
    let size : nat_lt 0 (length (front ++ back)) ≡ true = lt-ltb 0 (length (front ++ back)) (omega (arith, length-append front back)) in
    let digits : list_all is_digit (front ++ back) ≡ true = list_all-append is_digit front back ∙ and_from _ _ t u in
    rw (e, cut.0, cut.1, point.0, point.1, marks, size, digits, no_exponent) refl

-- ---- the normal form

record HasTens (m : ℕ) : Type 0 where
  digits : ℕ
  zeros : ℕ
  last : digits % 10 ≢ 0
  value : m ≡ digits * 10 ^ zeros

has_tens : (most m : ℕ) → m ≢ 0 → m ≤ most → HasTens m
has_tens zero m some h = absurd (some (omega arith))
has_tens (suc most) m some h = by (nat_eq (m % 10) 0) refl (has_tens most (m / 10))
  where
    by : (b : Bool) → nat_eq (m % 10) 0 ≡ b → (m / 10 ≢ 0 → m / 10 ≤ most → HasTens (m / 10)) → HasTens m
    by true e rest =
        let none : m % 10 ≡ 0 = eqb-true (m % 10) 0 e in
        let r = rest (λ q. some (omega (arith, q, none))) (omega arith) in
        let q = r.digits * 10 ^ r.zeros in
        let ten : r.digits * 10 ^ suc r.zeros ≡ q * 10 = rw (pow-suc 10 r.zeros) (omega arith) in
        record { digits = r.digits; zeros = suc r.zeros; last = r.last; value = rw ten (omega (arith, r.value, none)) }
    by false e rest = record { digits = m; zeros = 0; last = eqb-false (m % 10) 0 e; value = omega arith }

pub nothing_normal : (negative : Bool) (p : ℤ) → normal negative 0 p ≡ record { digits = pos 0; power = pos 0 }
unfolding normal
nothing_normal negative p = refl

-- zeros at the end may as well stand in the power
normal_shift : (negative : Bool) (m j : ℕ) (p : ℤ) → normal negative (m * 10 ^ j) p ≡ normal negative m (p +ℤ pos j)
normal_shift negative zero j p =
    let none : 0 * 10 ^ j ≡ 0 = omega arith in
    ap (λ x. normal negative x p) none ∙ nothing_normal negative p ∙ sym (nothing_normal negative (p +ℤ pos j))
normal_shift negative (suc m) j p =
    let t = has_tens (suc m) (suc m) (λ e. absurd (omega (arith, e))) (omega arith) in
    let n = t.digits in
    let a = 10 ^ t.zeros in
    let b = 10 ^ j in
    let all : suc m * b ≡ n * 10 ^ (t.zeros + j) = ap (λ x. x * b) t.value ∙ (rw (pow-add 10 t.zeros j) (omega arith)) in
    let sum : p +ℤ pos (t.zeros + j) ≡ (p +ℤ pos j) +ℤ pos t.zeros = omega (arith, ints) in
    ap (λ x. normal negative x p) all
    ∙ normal_is negative n (t.zeros + j) p t.last
    ∙ ap (λ q. record { digits = signed negative n; power = q }) sum
    ∙ sym (normal_is negative n t.zeros (p +ℤ pos j) t.last)
    ∙ sym (ap (λ x. normal negative x (p +ℤ pos j)) t.value)

size_value : (negative : Bool) (n k : ℕ) (word : List ℕ) (p : IsSize n k word) → normal negative (places (p.front ++ p.back)) (pos 0 -ℤ pos (length p.back)) ≡ normal negative n (neg_ℤ (pos k))
size_value negative n k word p =
    let m = places (p.front ++ p.back) in
    let j = k - length p.back in
    let power : neg_ℤ (pos k) +ℤ pos j ≡ pos 0 -ℤ pos (length p.back) = omega (arith, ints, p.fine) in
    sym (ap (λ x. normal negative x (neg_ℤ (pos k))) p.value ∙ normal_shift negative m j (neg_ℤ (pos k)) ∙ ap (normal negative m) power)

first_digit : (front rest : List ℕ) → 0 < length front → list_all is_digit front ≡ true → has_minus (front ++ rest) ≡ false
first_digit [] rest h t = absurd (omega arith)
first_digit (b ∷ front) rest h t = let both = and_parts (is_digit b) _ t in digit_other b 45 both.0 (inl (omega arith))

pub numeral_value : (k : ℕ) (z : ℤ) → unsigned_abs z < 10 ^ 64 → decimal_value (numeral k z) ≡ Some (written k z)
unfolding numeral
numeral_value k (pos n) h =
    let word = size_numeral k n in
    let p = size_parts k n h in
    let plus : has_minus word ≡ false = ap has_minus p.parts ∙ first_digit p.front (tail_of p.back) p.some p.digits in
    let whole_word : unsigned word ≡ p.front ++ tail_of p.back = ap unsigned p.parts ∙ unsigned_is p.front (tail_of p.back) p.some p.digits in
    value_is word p.front p.back whole_word p.digits p.more p.some
    ∙ ap (λ b. Some (normal b (places (p.front ++ p.back)) (pos 0 -ℤ pos (length p.back)))) plus
    ∙ ap Some (size_value false n k word p)
numeral_value k (negsuc n) h =
    let word = size_numeral k (suc n) in
    let p = size_parts k (suc n) h in
    value_is (45 ∷ word) p.front p.back (unsigned_minus word ∙ p.parts) p.digits p.more p.some
    ∙ ap Some (size_value true (suc n) k word p)

-- ---- within the limits of numerals

few_zeros : (n z : ℕ) → n % 10 ≢ 0 → n * 10 ^ z < 10 ^ 30 → z < 30
few_zeros zero z last h = absurd (last (omega arith))
few_zeros (suc n) z last h =
    elim (cases_lt z 30) [
      | inl below ↦ below
      | inr above ↦ absurd (omega (arith, pow-le-pow_right {n = 10} (omega arith) {i = 30} {j = z} above, h))
    ]

below_factor : (x a m : ℕ) → 1 ≤ a → x * a < m → x < m
below_factor x a m up h = let more : 1 * x ≤ a * x = mul-le-mul_right x up in omega (arith, more, h)

written_fits : (negative : Bool) (n k : ℕ) → n < 10 ^ 30 → k ≤ 6 → fits (normal negative n (neg_ℤ (pos k))) ≡ true
written_fits negative zero k h few = rw (nothing_normal negative (neg_ℤ (pos k))) refl
written_fits negative (suc m) k h few =
    let t = has_tens (suc m) (suc m) (λ e. absurd (omega (arith, e))) (omega arith) in
    let small : t.digits * 10 ^ t.zeros < 10 ^ 30 = rw (← t.value) h in
    let zeros = few_zeros t.digits t.zeros t.last small in
    let up = one-le-pow t.zeros 10 (omega arith) in
    let digits : t.digits < 10 ^ 30 = below_factor t.digits (10 ^ t.zeros) (10 ^ 30) up small in
    let power : unsigned_abs (neg_ℤ (pos k) +ℤ pos t.zeros) ≤ 400 = omega (arith, ints, zeros, few) in
    let is = ap (λ x. normal negative x (neg_ℤ (pos k))) t.value ∙ normal_is negative t.digits t.zeros (neg_ℤ (pos k)) t.last in
    rw is (and_from _ _ (lt-ltb _ _ (rw (abs-signed negative t.digits) digits)) (le-leb _ _ power))

written_size : (k : ℕ) (z : ℤ) → unsigned_abs z < 10 ^ 30 → k ≤ 6 → fits (written k z) ≡ true
written_size k (pos n) h few = written_fits false n k h few
written_size k (negsuc n) h few = written_fits true (suc n) k h few

pub numeral-law : (k : ℕ) (z : ℤ) → unsigned_abs z < 10 ^ 30 → k ≤ 6 → number (numeral k z) ≡ Ok (written k z)
unfolding decimal_number fitting
numeral-law k z h few = rw (numeral_value k z (omega (arith, h)), written_size k z h few) refl

-- ---- scaled back

back_normal : (negative : Bool) (n k : ℕ) → times_ten (normal negative n (neg_ℤ (pos k))) k ≡ signed negative n
back_normal negative zero k = rw (nothing_normal negative (neg_ℤ (pos k))) (by negative)
  where
    by : (b : Bool) → pos 0 *ℤ pos (10 ^ (0 + k)) ≡ signed b 0
    by true = omega (arith, ints)
    by false = omega (arith, ints)
back_normal negative (suc m) k =
    let t = has_tens (suc m) (suc m) (λ e. absurd (omega (arith, e))) (omega arith) in
    let is = ap (λ x. normal negative x (neg_ℤ (pos k))) t.value ∙ normal_is negative t.digits t.zeros (neg_ℤ (pos k)) t.last in
    let power : (neg_ℤ (pos k) +ℤ pos t.zeros) +ℤ pos k ≡ pos t.zeros = omega (arith, ints) in
    rw (is, power) (by negative t.digits (10 ^ t.zeros) ∙ sym (ap (signed negative) t.value))
  where
    by : (b : Bool) (x y : ℕ) → signed b x *ℤ pos y ≡ signed b (x * y)
    by true x y = neg_mul (pos x) (pos y)
    by false x y = refl

pub scaled_back : (k : ℕ) (z : ℤ) → times_ten (written k z) k ≡ z
scaled_back k (pos n) = back_normal false n k
scaled_back k (negsuc n) = back_normal true (suc n) k

-- ---- how many decimals a written number has

back_and_forth : (k : ℕ) → at_least_zero (neg_ℤ (neg_ℤ (pos k))) ≡ k
back_and_forth zero = refl
back_and_forth (suc k) = refl

decimals_least_of : (negative : Bool) (n k : ℕ) → n % 10 ≢ 0 → decimals (normal negative n (neg_ℤ (pos k))) ≡ k
decimals_least_of negative n k last =
    let one : n ≡ n * 10 ^ 0 = omega arith in
    let power : neg_ℤ (pos k) +ℤ pos 0 ≡ neg_ℤ (pos k) = omega (arith, ints) in
    ap decimals (ap (λ x. normal negative x (neg_ℤ (pos k))) one ∙ normal_is negative n 0 (neg_ℤ (pos k)) last)
    ∙ ap (λ z. at_least_zero (neg_ℤ z)) power ∙ back_and_forth k

pub decimals_least : (k : ℕ) (z : ℤ) → unsigned_abs z % 10 ≢ 0 → decimals (written k z) ≡ k
decimals_least k (pos n) last = decimals_least_of false n k last
decimals_least k (negsuc n) last = decimals_least_of true (suc n) k last

decimals_most_of : (negative : Bool) (n k : ℕ) → decimals (normal negative n (neg_ℤ (pos k))) ≤ k
decimals_most_of negative zero k = rw (nothing_normal negative (neg_ℤ (pos k))) (omega arith)
decimals_most_of negative (suc m) k =
    let t = has_tens (suc m) (suc m) (λ e. absurd (omega (arith, e))) (omega arith) in
    let is = ap (λ x. normal negative x (neg_ℤ (pos k))) t.value ∙ normal_is negative t.digits t.zeros (neg_ℤ (pos k)) t.last in
    rw is (below k t.zeros)
  where
    size_of : (z : ℤ) (k j : ℕ) → z ≡ pos k -ℤ pos j → at_least_zero z ≤ k
    size_of (pos n) k j e = omega (arith, ints, e)
    size_of (negsuc n) k j e = omega arith

    below : (k j : ℕ) → at_least_zero (neg_ℤ (neg_ℤ (pos k) +ℤ pos j)) ≤ k
    below k j = size_of (neg_ℤ (neg_ℤ (pos k) +ℤ pos j)) k j (omega (arith, ints))

pub decimals_most : (k : ℕ) (z : ℤ) → decimals (written k z) ≤ k
decimals_most k (pos n) = decimals_most_of false n k
decimals_most k (negsuc n) = decimals_most_of true (suc n) k
