-- The words of numbers are read as the numbers that were written.
use Rattle.std.proofs.Common.{◌≡◌, ◌≢◌, ◌⊎◌, inl, inr, ℕ, suc, ◌+◌, ◌<◌, ◌≤◌, ◌^◌, nat_eq, nat_le, Bool, true, false, List, [], ◌∷◌, ◌++◌, length-append, take, drop, ℤ, pos, negsuc, ◌≤ℤ◌, unsigned_abs, Option, Some, None, IfSome, Ok, Err, codes, refl, sym, ap, ◌∙◌, arith, true≢false}
use Rattle.std.specs.Fmt.{decimal, signed_decimal}
use Rattle.std.specs.List.{list_all, list_any, before_first, after_first, position_or_len}
use Rattle.std.specs.Str.{bytes_eq}
use Rattle.std.proofs.lemmas.Bool.{cases_Bool, and_parts, and_from, or_parts, or_from, or_right, not_from_false, ne_eqb, eq-eqb, eqb-true, eqb-false, leb-true, le-leb, lt-ltb, ltb-true, cond-true, cond-false, false_from_ne_true}
use Rattle.std.proofs.lemmas.Int.{ints}
use Rattle.std.proofs.lemmas.List.Folds.{list_all-append, list_any-append}
use Rattle.std.proofs.lemmas.Slice.Eq.{bytes_eq-Decides}
use Rattle.um_laws.specs.Divisors.{gcd}
use Rattle.um_laws.specs.LowestTerms.{gcd_is}
use Rattle.um_laws.specs.Rational.{Rational, reduce}
use Rattle.um_laws.proofs.RationalParts.{reduce_parts}
use Rattle.um_num.specs.Numbers.{IsInRange, in_range}
use Rattle.um_num.specs.Views.{rational}
use Rattle.um_text.specs.Numerals.{is_digit, whole_value, whole_number, ranged_or_none}
use Rattle.um_text.specs.NumberWords.{is_slash, fraction_word, fraction_or_none}
use Rattle.um_text.specs.declared.numeral.NumberFault.TheVariants.{NotNumber}
use Rattle.um_text.proofs.ReadBack.{written, read_back}
use Rattle.um_treetext.specs.declared.fault.TreeWord.TheVariants.{BadNumber}
use Rattle.um_treetext.specs.Words.{some_or, numeral, natural_word, from_zero_word, whole_word, is_short, short_word, is_at_least, reduced, parts_word, fraction_said, fraction_or_none_said}
use Rattle.um_treetext.specs.FrontLines.{is_name_byte, den_said, tolerance_said, count_said}
use Rattle.um_treetext.specs.NodeLines.{is_colon, zero_word}
use Rattle.um_treetext.specs.Writable.{IsWritableFraction}
use Rattle.um_treelaws.proofs.WrittenLines.{IsPiece}

-- ---- lists cut at the first of a kind

place_on : {X : Type 0} (p : X → Bool) (x : X) (xs : List X) → p x ≡ false → position_or_len p (x ∷ xs) ≡ suc (position_or_len p xs)
place_on p x xs e = rw e (omega arith)

-- the two sides of the first of a kind
pub record IsCut {X : Type 0} (p : X → Bool) (xs front back : List X) : Type 0 where
  pub front_is : before_first p xs ≡ front
  pub back_is : after_first p xs ≡ back

cut_on : {X : Type 0} (p : X → Bool) (x : X) (xs front back : List X) → p x ≡ false → IsCut p xs front back → IsCut p (x ∷ xs) (x ∷ front) back
cut_on {X = X} p x xs front back e rest =
    let place = place_on p x xs e in
    let next : position_or_len p (x ∷ xs) + 1 ≡ suc (position_or_len p xs + 1) = omega (arith, place) in
    record { front_is = ap (λ n. take n (x ∷ xs)) place ∙ ap (λ (ys : List X). x ∷ ys) rest.front_is; back_is = ap (λ n. drop n (x ∷ xs)) next ∙ rest.back_is }

pub cut_at : {X : Type 0} (p : X → Bool) (xs : List X) (y : X) (ys : List X) → list_any p xs ≡ false → p y ≡ true → IsCut p (xs ++ y ∷ ys) xs ys
cut_at p [] y ys t here = record { front_is = rw here refl; back_is = rw here refl }
cut_at p (x ∷ xs) y ys t here =
    let both = or_parts (p x) (list_any p xs) t in
    cut_on p x (xs ++ y ∷ ys) xs ys both.0 (cut_at p xs y ys both.1 here)

-- ---- the bytes of numerals

digit_other : (b c : ℕ) → is_digit b ≡ true → (c < 48) ⊎ (57 < c) → nat_eq b c ≡ false
digit_other b c t (inl low) = let both = and_parts (nat_le 48 b) _ t in let least = leb-true 48 b both.0 in ne_eqb b c (λ e. absurd (omega (arith, e, least, low)))
digit_other b c t (inr high) = let both = and_parts (nat_le 48 b) _ t in let most = leb-true b 57 both.1 in ne_eqb b c (λ e. absurd (omega (arith, e, most, high)))

name_digit : (b : ℕ) → is_digit b ≡ true → is_name_byte b ≡ true
name_digit b t = not_from_false _ (or_from _ _ (or_from _ _ (digit_other b 32 t (inl (omega arith))) (digit_other b 9 t (inl (omega arith)))) (digit_other b 10 t (inl (omega arith))))

name_digits : (ds : List ℕ) → list_all is_digit ds ≡ true → list_all is_name_byte ds ≡ true
name_digits [] t = refl
name_digits (b ∷ ds) t = let both = and_parts (is_digit b) _ t in and_from _ _ (name_digit b both.0) (name_digits ds both.1)

none_in : (p : ℕ → Bool) → ((b : ℕ) → is_digit b ≡ true → p b ≡ false) → (ds : List ℕ) → list_all is_digit ds ≡ true → list_any p ds ≡ false
none_in p fails [] t = refl
none_in p fails (b ∷ ds) t = let both = and_parts (is_digit b) _ t in or_from _ _ (fails b both.0) (none_in p fails ds both.1)

-- a word without a slash and without a colon
pub record IsPlain (word : List ℕ) : Type 0 where
  pub piece : IsPiece word
  pub slash : list_any is_slash word ≡ false
  pub colon : list_any is_colon word ≡ false

plain_digits : (n : ℕ) → n < 10 ^ 64 → IsPlain (decimal n)
plain_digits n h =
    let w = written n h in
    record {
      piece = record { bytes = name_digits (decimal n) w.digits; some = w.some };
      slash = none_in is_slash (λ b t. digit_other b 47 t (inl (omega arith))) (decimal n) w.digits;
      colon = none_in is_colon (λ b t. digit_other b 58 t (inr (omega arith))) (decimal n) w.digits;
    }

pub plain_decimal : (n : ℕ) → n < 2 ^ 127 → IsPlain (decimal n)
plain_decimal n h = plain_digits n (omega (arith, h))

pub plain_signed : (z : ℤ) → IsInRange z → IsPlain (signed_decimal z)
plain_signed (pos n) h = plain_digits n (omega (arith, h))
plain_signed (negsuc n) h =
    let d = plain_digits (suc n) (omega (arith, h)) in
    record {
      piece = record { bytes = and_from _ _ refl d.piece.bytes; some = omega arith };
      slash = or_from _ _ refl d.slash;
      colon = or_from _ _ refl d.colon;
    }

-- a number's word is no word that is no numeral
pub other_word : (z : ℤ) (word : List ℕ) → IsInRange z → whole_number word ≡ Err NotNumber → bytes_eq (signed_decimal z) word ≡ false
other_word z word h none =
    false_from_ne_true _ (λ t.
    let same : signed_decimal z ≡ word = (bytes_eq-Decides (signed_decimal z) word).0 t in
    let bad : Err NotNumber ≡ Ok z = sym none ∙ ap whole_number (sym same) ∙ read_back z h in
    let worse = bad in cc)

-- ---- whole numbers

some_of : (o : Option ℤ) (z : ℤ) → ranged_or_none o ≡ Ok z → some_or BadNumber o ≡ Ok z
some_of None z e = absurd (let bad = e in cc)
some_of (Some x) z e =
    elim (cases_Bool (in_range x)) [
      | inl t ↦ let same : Ok x ≡ Ok z = rw t at e in cc
      | inr f ↦ absurd (let bad = rw f at e in cc)
    ]

pub numeral_back : (z : ℤ) → IsInRange z → numeral (signed_decimal z) ≡ Ok z
unfolding numeral
numeral_back z h = some_of (whole_value (signed_decimal z)) z (read_back z h)

pub count_back : (n : ℕ) → n < 2 ^ 127 → numeral (decimal n) ≡ Ok (pos n)
count_back n h = numeral_back (pos n) h

pub natural_back : (limit n : ℕ) → limit ≤ 2 ^ 127 → n < limit → natural_word limit (decimal n) ≡ Ok n
unfolding natural_word
natural_back limit n within h = rw (count_back n (omega (arith, within, h)), lt-ltb n limit h) refl

pub whole_back : (z : ℤ) → IsInRange z → whole_word (signed_decimal z) ≡ Ok z
unfolding whole_word
whole_back z h = rw (numeral_back z h, lt-ltb (unsigned_abs z) (2 ^ 127) h) refl

pub short_range : (z : ℤ) → is_short z ≡ true → IsInRange z
short_range (pos n) e = let h = ltb-true n (2 ^ 63) e in omega (arith, h)
short_range (negsuc n) e = let h = ltb-true n (2 ^ 63) e in omega (arith, h)

pub short_back : (z : ℤ) → is_short z ≡ true → short_word (signed_decimal z) ≡ Ok z
unfolding short_word
short_back z e = rw (numeral_back z (short_range z e), e) refl

pub from_zero_back : (z : ℤ) → pos 0 ≤ℤ z → IsInRange z → from_zero_word (signed_decimal z) ≡ Ok z
unfolding from_zero_word
from_zero_back (pos n) up h = rw (natural_back (2 ^ 127) n (omega arith) h) refl
from_zero_back (negsuc n) up h = absurd (omega (arith, ints, up))

pub zero_back : (z : ℤ) → z ≡ pos 0 → zero_word (signed_decimal z) ≡ Ok z
unfolding zero_word
zero_back z e =
    let zero : from_zero_word (signed_decimal z) ≡ Ok z = from_zero_back z (omega (arith, ints, e)) (omega (arith, ints, e)) in
    rw (zero, e) refl

pub tolerance_back : (z : ℤ) → pos 0 ≤ℤ z → is_short z ≡ true → tolerance_said (signed_decimal z) ≡ Ok z
unfolding tolerance_said
tolerance_back (pos n) up short = rw (natural_back (2 ^ 63) n (omega arith) (ltb-true n (2 ^ 63) short)) refl
tolerance_back (negsuc n) up short = absurd (omega (arith, ints, up))

pub count_said_back : (n : ℕ) → n < 2 ^ 127 → count_said n (decimal n) ≡ Ok n
unfolding count_said
count_said_back n h = rw (natural_back (2 ^ 127) n (omega arith) h, eq-eqb n n refl) refl

at_least : (z : ℤ) (least : ℕ) → pos least ≤ℤ z → is_at_least least z ≡ true
at_least (pos n) least h = le-leb least n (omega (arith, ints, h))
at_least (negsuc n) least h = absurd (omega (arith, ints, h))

pub den_back : (z : ℤ) → pos 1 ≤ℤ z → IsInRange z → den_said (signed_decimal z) ≡ Ok z
unfolding den_said
den_back z up h = rw (numeral_back z h, at_least z 1 up, lt-ltb (unsigned_abs z) (2 ^ 127) h) refl

-- ---- fractions

-- the word of a fraction that is no whole number
abbrev over_word : Rational → List ℕ
over_word x = signed_decimal x.num ++ 47 ∷ decimal x.den

whole_is : (x : Rational) → x.den ≡ 1 → fraction_word x ≡ signed_decimal x.num
whole_is x one = cond-true _ _ _ (eq-eqb x.den 1 one)

over_is : (x : Rational) → x.den ≢ 1 → fraction_word x ≡ over_word x
over_is x more = cond-false _ _ _ (ne_eqb x.den 1 more)

has_slash : (x : Rational) → list_any is_slash (over_word x) ≡ true
has_slash x = list_any-append is_slash (signed_decimal x.num) (47 ∷ decimal x.den) ∙ or_right _ _ refl

whole_fraction : (x : Rational) → IsWritableFraction x → x.den ≡ 1 → fraction_said (signed_decimal x.num) ≡ Ok x
unfolding fraction_said
whole_fraction x h one =
    let same : rational x.num (pos 1) ≡ x = ap (reduce x.num) (sym one) ∙ reduce_parts x in
    rw ((plain_signed x.num h.num).slash, whole_back x.num h.num) (ap Ok same)

lowest : (x : Rational) → gcd (unsigned_abs x.num) x.den ≡ 1
lowest x = let g = gcd_is (unsigned_abs x.num) x.den in x.reduced (gcd (unsigned_abs x.num) x.den) g.0 g.1

reduced_back : (x : Rational) → IsWritableFraction x → x.den ≢ 1 → reduced x.num (pos x.den) ≡ Ok x
unfolding reduced
reduced_back x h more =
    let up : nat_le 2 x.den ≡ true = le-leb 2 x.den (let p = x.positive in omega (arith, p, more)) in
    let one : nat_eq (gcd (unsigned_abs x.num) x.den) 1 ≡ true = eq-eqb _ _ (lowest x) in
    rw (up, lt-ltb (unsigned_abs x.num) (2 ^ 127) h.num, lt-ltb x.den (2 ^ 127) h.den, one) (ap Ok (reduce_parts x))

over_fraction : (x : Rational) → IsWritableFraction x → x.den ≢ 1 → fraction_said (over_word x) ≡ Ok x
unfolding fraction_said parts_word
over_fraction x h more =
    let cut = cut_at is_slash (signed_decimal x.num) 47 (decimal x.den) (plain_signed x.num h.num).slash refl in
    rw (has_slash x, cut.front_is, cut.back_is, numeral_back x.num h.num, count_back x.den h.den) (reduced_back x h more)

fraction_back : (x : Rational) → IsWritableFraction x → fraction_said (fraction_word x) ≡ Ok x
fraction_back x h =
    elim (cases_Bool (nat_eq x.den 1)) [
      | inl one ↦ let e = eqb-true x.den 1 one in ap fraction_said (whole_is x e) ∙ whole_fraction x h e
      | inr more ↦ let e = eqb-false x.den 1 more in ap fraction_said (over_is x e) ∙ over_fraction x h e
    ]

piece_over : (x : Rational) → IsWritableFraction x → IsPiece (over_word x)
piece_over x h =
    let p = (plain_signed x.num h.num).piece in
    let d = (plain_decimal x.den h.den).piece in
    record {
      bytes = list_all-append is_name_byte (signed_decimal x.num) (47 ∷ decimal x.den) ∙ and_from _ _ p.bytes (and_from _ _ refl d.bytes);
      some = omega (arith, length-append (signed_decimal x.num) (47 ∷ decimal x.den));
    }

-- with a slash it is not `none`
over_some : (x : Rational) → bytes_eq (over_word x) (codes "none") ≡ false
over_some x =
    false_from_ne_true _ (λ t.
    let same : over_word x ≡ codes "none" = (bytes_eq-Decides (over_word x) (codes "none")).0 t in
    true≢false (sym (has_slash x) ∙ ap (list_any is_slash) same))

-- a fraction's word can stand in a line, and is not `none`
record IsFraction (word : List ℕ) : Type 0 where
  piece : IsPiece word
  other : bytes_eq word (codes "none") ≡ false

fraction_is : (x : Rational) → IsWritableFraction x → IsFraction (fraction_word x)
fraction_is x h =
    elim (cases_Bool (nat_eq x.den 1)) [
      | inl one ↦ rw one (record { piece = (plain_signed x.num h.num).piece; other = other_word x.num (codes "none") h.num refl })
      | inr more ↦ rw more (record { piece = piece_over x h; other = over_some x })
    ]

pub piece_fraction : (o : Option Rational) → IfSome o IsWritableFraction → IsPiece (fraction_or_none o)
piece_fraction None h = record { bytes = refl; some = omega arith }
piece_fraction (Some x) h = (fraction_is x h).piece

pub fraction_or_none_back : (o : Option Rational) → IfSome o IsWritableFraction → fraction_or_none_said (fraction_or_none o) ≡ Ok o
unfolding fraction_or_none_said
fraction_or_none_back None h = refl
fraction_or_none_back (Some x) h = rw ((fraction_is x h).other, fraction_back x h) refl
