-- Which numbers words stand for.
use Rattle.std.proofs.Common.{◌≡◌, ℕ, zero, suc, ◌<◌, ◌≤◌, ◌^◌, ◌-◌, ℤ, pos, negsuc, List, [], ◌∷◌, length, take, drop, ◌+◌, to_z, of_z, true, false, Bool, Option, Some, None, Result, Ok, Err, IfOk, refl, sym, ap, ◌∙◌, arith, inl, inr, nat_lt, nat_eq, nat_le, not, ◌&&◌, ◌||◌, FitsSigned, unsigned_abs, neg_ℤ, ◌≤ℤ◌, IsErrAnd, MatchResult}
use Rattle.std.specs.List.{position, position_or_len, list_any, before_first, after_first}
use Rattle.std.proofs.lemmas.Bool.{cases_Bool, cases_lt, cond-true, cond-false, eqb-true, eq-eqb, ne_eqb, ltb-true, ltb-false, lt-ltb, le-ltb, le-leb, lt-leb, and_left, and_right}
use Rattle.std.proofs.lemmas.Int.{ints, to_z-of_z}
use Rattle.std.specs.Int.{w64, w128}
use Rattle.um_laws.specs.Divisors.{gcd}
use Rattle.um_num.specs.Views.{rational}
use Rattle.um_num.specs.Numbers.{in_range, then_step}
use Rattle.um_text.specs.Numerals.{whole_value, ranged, ranged_or_none, whole_number, is_zero, is_positive, is_digit, has_minus, signed, places}
use Rattle.um_text.specs.declared.numeral.NumberFault.{NumberFault}
use Rattle.um_text.specs.declared.numeral.NumberFault.TheVariants as number_fault
use Rattle.um_treetext.specs.declared.fault.TreeWord.{TreeWord}
use Rattle.um_treetext.specs.declared.fault.TreeWord.TheVariants.{BadNumber, BadWord, TooWide}
use Rattle.um_treetext.specs.FrontLines.{den_said, tolerance_said}
use Rattle.um_treetext.specs.Words.{Says, some_or, numeral, from_zero, natural_word, from_zero_word, whole_word, short_word, is_short, is_at_least, reduced, fraction_said, parts_word, kept}
use Rattle.um_treetext.specs.Calls.{IsLarge, IsNumeral, is_byte}
use Rattle.um_treetext.specs.declared.reading.numbers.Numeral.TheVariants.{Small, Large}

-- ---- numerals

small_some : (o : Option ℤ) (n : ℤ) → Ok n ≡ ranged_or_none o → some_or BadNumber o ≡ Ok n
small_some None n e = cc
small_some (Some z) n e =
    elim (cases_Bool (in_range z)) [
      | inl t ↦ let same : Ok n ≡ Ok z = rw t at e in cc
      | inr f ↦ let no = rw f at e in cc
    ]

pub small_numeral : (word : List ℕ) (n : ℤ) → Ok n ≡ whole_number word → IsNumeral word (Small n)
unfolding numeral
small_numeral word n e = record { number = n; is = small_some (whole_value word) n e; stands = refl }

no_some : (o : Option ℤ) → Err number_fault.NotNumber ≡ ranged_or_none o → some_or BadNumber o ≡ Err BadNumber
no_some None e = refl
no_some (Some z) e =
    elim (cases_Bool (in_range z)) [
      | inl t ↦ let no = rw t at e in cc
      | inr f ↦ let no = rw f at e in cc
    ]

pub no_numeral : (word : List ℕ) → Err number_fault.NotNumber ≡ whole_number word → numeral word ≡ Err BadNumber
unfolding numeral
no_numeral word e = no_some (whole_value word) e

unsigned_word : (word : List ℕ) → is_positive word ≡ true → has_minus word ≡ false
unsigned_word [] e = refl
unsigned_word (b ∷ bs) e =
    elim (cases_Bool (nat_eq b 45)) [
      | inl t ↦
          let is = eqb-true b 45 t in
          let up = lt-ltb 0 (length (b ∷ bs)) (omega arith) in
          absurd (let bad = rw (up, is) at e in cc)
      | inr f ↦ f
    ]

zero_digit : (word : List ℕ) → is_zero word ≡ true → has_minus word ≡ false
zero_digit [] e = refl
zero_digit (b ∷ bs) e =
    elim (cases_Bool (nat_eq b 45)) [
      | inl t ↦
          let is = eqb-true b 45 t in
          let other : nat_eq b 48 ≡ false = rw is refl in
          absurd (let bad = and_right (nat_eq (length (b ∷ bs)) 1) (nat_eq b 48) other in let worse : true ≡ false = sym e ∙ bad in cc)
      | inr f ↦ f
    ]

digits_unsigned : (word : List ℕ) → (is_zero word || is_positive word) ≡ true → has_minus word ≡ false
digits_unsigned word e =
    elim (cases_Bool (is_zero word)) [
      | inl t ↦ zero_digit word t
      | inr f ↦ unsigned_word word (rw f at e)
    ]

out_of_range : (n : ℕ) → in_range (pos n) ≡ false → 2 ^ 127 ≤ n
out_of_range n e = ltb-false n (2 ^ 127) e

size_of : (negative : Bool) (n : ℕ) → unsigned_abs (signed negative n) ≡ n
size_of true zero = refl
size_of true (suc n) = refl
size_of false n = refl

large_of : (word : List ℕ) (o : Option ℤ) (negative : Bool) (size : ℕ) → numeral word ≡ some_or BadNumber o → o ≡ Some (signed negative size) → Err number_fault.TooWide ≡ ranged_or_none o → IsNumeral word (Large negative)
large_of word o negative size e is wide =
    elim (cases_Bool (in_range (signed negative size))) [
      | inl t ↦ absurd (let bad = rw (is, t) at wide in cc)
      | inr f ↦ record { number = signed negative size; is = e ∙ rw is refl; stands = record { size = size; large = let l = ltb-false _ _ f in rw (size_of negative size) at l; is = refl } }
    ]

pub large_numeral : (word : List ℕ) → Err number_fault.TooWide ≡ whole_number word → IsNumeral word (Large (has_minus word))
unfolding numeral
large_numeral word e =
    elim (cases_Bool (is_zero word || is_positive word)) [
      | inl t ↦ rw (digits_unsigned word t) (large_of word (whole_value word) false (places word) refl (rw t refl) e)
      | inr f ↦
          elim (cases_Bool (has_minus word && is_positive (drop 1 word))) [
            | inl u ↦
                let minus : has_minus word ≡ true = elim (cases_Bool (has_minus word)) [ inl m ↦ m | inr n ↦ absurd (let bad = rw n at u in cc) ] in
                rw minus (large_of word (whole_value word) true (places (drop 1 word)) refl (rw (f, u) refl) e)
            | inr v ↦ absurd (let bad = rw (f, v) at e in cc)
          ]
    ]

-- ---- numbers from 0 on

abbrev nat_of : ℕ → ℤ → Says ℕ
nat_of limit z = then_step (from_zero z) (λ n. kept ((not (nat_lt n limit), TooWide) ∷ []) n)

below_limit : (limit n : ℕ) → n < limit → nat_of limit (pos n) ≡ Ok n
below_limit limit n h = rw (lt-ltb n limit h) refl

above_limit : (limit n : ℕ) → limit ≤ n → nat_of limit (pos n) ≡ Err TooWide
above_limit limit n h = rw (le-ltb n limit h) refl

abbrev zero_of : ℤ → Says ℤ
zero_of z = then_step (nat_of (2 ^ 127) z) (λ n. Ok (pos n))

-- the number in range of a numeral, from 0 on
pub zero_small : (word : List ℕ) (z : ℤ) → numeral word ≡ Ok z → unsigned_abs z < 2 ^ 127 → pos 0 ≤ℤ z → Ok z ≡ from_zero_word word
unfolding from_zero_word natural_word
zero_small word (pos n) e h up = rw (e, lt-ltb n (2 ^ 127) h) refl
zero_small word (negsuc n) e h up = absurd (omega (arith, ints, up))

pub zero_negative : (word : List ℕ) (z : ℤ) → numeral word ≡ Ok z → (pos 0 ≤ℤ z → ⊥) → Err BadNumber ≡ from_zero_word word
unfolding from_zero_word natural_word
zero_negative word (pos n) e never = absurd (never (omega (arith, ints)))
zero_negative word (negsuc n) e never = rw e refl

pub zero_err : (word : List ℕ) (fault : TreeWord) → numeral word ≡ Err fault → from_zero_word word ≡ Err fault
unfolding from_zero_word natural_word
zero_err word fault e = rw e refl

below_zero : (z : ℤ) → IsLarge true z → pos 0 ≤ℤ z → ⊥
below_zero z h up = let l = h.large in let is = h.is in omega (arith, ints, up, l, is)

pub zero_large_negative : (word : List ℕ) (z : ℤ) → numeral word ≡ Ok z → IsLarge true z → Err BadNumber ≡ from_zero_word word
zero_large_negative word z e h = zero_negative word z e (below_zero z h)

pub zero_large : (word : List ℕ) (z : ℤ) → numeral word ≡ Ok z → IsLarge false z → Err TooWide ≡ from_zero_word word
unfolding from_zero_word natural_word
zero_large word z e h = rw (e, h.is, le-ltb h.size (2 ^ 127) h.large) refl

-- ---- numbers from 0 on below a limit

pub natural_err : (limit : ℕ) (word : List ℕ) (fault : TreeWord) → limit ≤ 2 ^ 127 → Err fault ≡ from_zero_word word → natural_word limit word ≡ Err fault
unfolding from_zero_word natural_word
natural_err limit word fault within e = go (numeral word) e
  where
    go : (s : Says ℤ) → Err fault ≡ then_step (then_step s (nat_of (2 ^ 127))) (λ n. Ok (pos n)) → then_step s (nat_of limit) ≡ Err fault
    go (Err f) h = let is : fault ≡ f = cc in rw is refl
    go (Ok (negsuc n)) h = let is : fault ≡ BadNumber = cc in rw is refl
    go (Ok (pos n)) h =
        elim (cases_lt n (2 ^ 127)) [
          | inl below ↦ let no = rw (lt-ltb n (2 ^ 127) below) at h in cc
          | inr above ↦ let same = rw (le-ltb n (2 ^ 127) above) at h in let is : fault ≡ TooWide = cc in rw is (above_limit limit n (omega (arith, within, above)))
        ]

is_number : (s : Says ℤ) (z : ℤ) → Ok z ≡ then_step (then_step s (nat_of (2 ^ 127))) (λ n. Ok (pos n)) → s ≡ Ok z
is_number (Err f) z h = cc
is_number (Ok (negsuc n)) z h = cc
is_number (Ok (pos n)) z h =
    elim (cases_lt n (2 ^ 127)) [
      | inl below ↦ let same : Ok z ≡ Ok (pos n) = rw (lt-ltb n (2 ^ 127) below) at h in sym same
      | inr above ↦ let no = rw (le-ltb n (2 ^ 127) above) at h in cc
    ]

-- a number that is read is that of the numeral
pub zero_is : (word : List ℕ) (z : ℤ) → Ok z ≡ from_zero_word word → numeral word ≡ Ok z
unfolding from_zero_word natural_word
zero_is word z e = is_number (numeral word) z e

pub natural_ok : (limit : ℕ) (word : List ℕ) (z : ℤ) (n : ℕ) → Ok z ≡ from_zero_word word → z ≡ pos n → n < limit → natural_word limit word ≡ Ok n
unfolding natural_word
natural_ok limit word z n e is h = rw (zero_is word z e, is, lt-ltb n limit h) refl

not_negative : (s : Says ℤ) (n : ℕ) → Ok (negsuc n) ≡ then_step (then_step s (nat_of (2 ^ 127))) (λ n. Ok (pos n)) → ⊥
not_negative (Err f) n h = absurd (let no = h in cc)
not_negative (Ok (negsuc m)) n h = absurd (let no = h in cc)
not_negative (Ok (pos m)) n h =
    elim (cases_lt m (2 ^ 127)) [
      | inl below ↦ let no = rw (lt-ltb m (2 ^ 127) below) at h in cc
      | inr above ↦ let no = rw (le-ltb m (2 ^ 127) above) at h in cc
    ]

pub natural_wide : (limit : ℕ) (word : List ℕ) (z : ℤ) → Ok z ≡ from_zero_word word → (pos 0 ≤ℤ z → unsigned_abs z < limit → ⊥) → natural_word limit word ≡ Err TooWide
unfolding natural_word from_zero_word
natural_wide limit word (pos n) e never = rw (zero_is word (pos n) e, le-ltb n limit (elim (cases_lt n limit) [ inl below ↦ absurd (never (omega (arith, ints)) below) | inr above ↦ above ])) refl
natural_wide limit word (negsuc n) e never = absurd (not_negative (numeral word) n e)

pub zero_given : (r : Result ℤ TreeWord) (word : List ℕ) (z : ℤ) → numeral word ≡ Ok z → unsigned_abs z < 2 ^ 127 → MatchResult r (λ same. (same ≡ z) × (pos 0 ≤ℤ z)) (λ fault. (fault ≡ BadNumber) × (pos 0 ≤ℤ z → ⊥)) → r ≡ from_zero_word word
zero_given (Ok x) word z e h is = rw is.0 (zero_small word z e h is.1)
zero_given (Err f) word z e h is = rw is.0 (zero_negative word z e is.1)

-- ---- numbers in range

pub whole_small : (word : List ℕ) (z : ℤ) → numeral word ≡ Ok z → unsigned_abs z < 2 ^ 127 → Ok z ≡ whole_word word
unfolding whole_word
whole_small word z e h = rw (e, lt-ltb (unsigned_abs z) (2 ^ 127) h) refl

pub size_large : (negative : Bool) (z : ℤ) → IsLarge negative z → 2 ^ 127 ≤ unsigned_abs z
size_large negative z h = rw (h.is, size_of negative h.size) h.large

pub whole_large : (word : List ℕ) (z : ℤ) (negative : Bool) → numeral word ≡ Ok z → IsLarge negative z → Err TooWide ≡ whole_word word
unfolding whole_word
whole_large word z negative e h = rw (e, le-ltb (unsigned_abs z) (2 ^ 127) (size_large negative z h)) refl

pub whole_err : (word : List ℕ) (fault : TreeWord) → numeral word ≡ Err fault → whole_word word ≡ Err fault
unfolding whole_word
whole_err word fault e = rw e refl

whole_of : (s : Says ℤ) (z : ℤ) → Ok z ≡ then_step s (λ z. kept ((not (in_range z), TooWide) ∷ []) z) → s ≡ Ok z
whole_of (Err f) z h = cc
whole_of (Ok n) z h =
    elim (cases_Bool (in_range n)) [
      | inl t ↦ let same : Ok z ≡ Ok n = rw t at h in sym same
      | inr f ↦ let bad = rw f at h in cc
    ]

pub whole_is : (word : List ℕ) (z : ℤ) → Ok z ≡ whole_word word → numeral word ≡ Ok z
unfolding whole_word
whole_is word z e = whole_of (numeral word) z e

-- ---- numbers of 64 bits

short_size : (z : ℤ) → is_short z ≡ true → unsigned_abs z < 2 ^ 127
short_size (pos n) e = let h = ltb-true n (2 ^ 63) e in omega (arith, h)
short_size (negsuc n) e = let h = ltb-true n (2 ^ 63) e in omega (arith, h)

pub short_err : (word : List ℕ) (fault : TreeWord) → Err fault ≡ whole_word word → short_word word ≡ Err fault
unfolding whole_word short_word
short_err word fault e = go (numeral word) e
  where
    go : (s : Says ℤ) → Err fault ≡ then_step s (λ z. kept ((not (in_range z), TooWide) ∷ []) z) → then_step s (λ z. kept ((not (is_short z), TooWide) ∷ []) z) ≡ Err fault
    go (Err f) h = sym h
    go (Ok n) h =
        elim (cases_Bool (in_range n)) [
          | inl t ↦ absurd (let bad = rw t at h in cc)
          | inr f ↦
              let is = rw f at h in
              elim (cases_Bool (is_short n)) [
                | inl s ↦ let l = ltb-false (unsigned_abs n) (2 ^ 127) f in let k = short_size n s in absurd (omega (arith, l, k))
                | inr u ↦ rw u (sym is)
              ]
        ]

short_in : (z : ℤ) → FitsSigned w64 z → is_short z ≡ true
short_in (pos n) f = lt-ltb n (2 ^ 63) (omega (arith, ints, f))
short_in (negsuc n) f = lt-ltb n (2 ^ 63) (omega (arith, ints, f))

short_out : (z : ℤ) → (FitsSigned w64 z → ⊥) → is_short z ≡ false
short_out (pos n) h = le-ltb n (2 ^ 63) (elim (cases_lt n (2 ^ 63)) [ inl below ↦ absurd (h (omega (arith, ints, below))) | inr above ↦ above ])
short_out (negsuc n) h = le-ltb n (2 ^ 63) (elim (cases_lt n (2 ^ 63)) [ inl below ↦ absurd (h (omega (arith, ints, below))) | inr above ↦ above ])

pub short_ok : (word : List ℕ) (z : ℤ) → Ok z ≡ whole_word word → FitsSigned w64 z → Ok z ≡ short_word word
unfolding short_word
short_ok word z e f = rw (whole_is word z e, short_in z f) refl

pub short_wide : (word : List ℕ) (z : ℤ) → Ok z ≡ whole_word word → (FitsSigned w64 z → ⊥) → Err TooWide ≡ short_word word
unfolding short_word
short_wide word z e f = rw (whole_is word z e, short_out z f) refl

-- ---- what a point's parts are over

at_least : (z : ℤ) (least : ℕ) → pos least ≤ℤ z → is_at_least least z ≡ true
at_least (pos n) least h = le-leb least n (omega (arith, ints, h))
at_least (negsuc n) least h = absurd (omega (arith, ints, h))

not_least : (z : ℤ) (least : ℕ) → (pos least ≤ℤ z → ⊥) → is_at_least least z ≡ false
not_least (pos n) least h = lt-leb least n (elim (cases_lt n least) [ inl below ↦ below | inr above ↦ absurd (h (omega (arith, ints, above))) ])
not_least (negsuc n) least h = refl

pub den_given : (r : Result ℤ TreeWord) (word : List ℕ) (z : ℤ) → numeral word ≡ Ok z → unsigned_abs z < 2 ^ 127 → MatchResult r (λ same. (same ≡ z) × (pos 1 ≤ℤ z)) (λ fault. (fault ≡ BadWord) × (pos 1 ≤ℤ z → ⊥)) → r ≡ den_said word
unfolding den_said
den_given (Ok x) word z e h is = rw (is.0, e, at_least z 1 is.1, lt-ltb (unsigned_abs z) (2 ^ 127) h) refl
den_given (Err f) word z e h is = rw (is.0, e, not_least z 1 is.1) refl

pub den_large : (word : List ℕ) (z : ℤ) → numeral word ≡ Ok z → IsLarge false z → Err TooWide ≡ den_said word
unfolding den_said
den_large word z e h = rw (e, at_least z 1 (let l = h.large in let is = h.is in omega (arith, ints, l, is)), le-ltb (unsigned_abs z) (2 ^ 127) (size_large false z h)) refl

pub den_negative : (word : List ℕ) (z : ℤ) → numeral word ≡ Ok z → IsLarge true z → Err BadWord ≡ den_said word
unfolding den_said
den_negative word z e h = rw (e, not_least z 1 (λ up. below_zero z h (omega (arith, ints, up)))) refl

pub den_err : (word : List ℕ) (fault : TreeWord) → numeral word ≡ Err fault → den_said word ≡ Err fault
unfolding den_said
den_err word fault e = rw e refl

-- ---- fractions

pub low_den : (n d : ℤ) → (pos 2 ≤ℤ d → ⊥) → Err BadNumber ≡ reduced n d
unfolding reduced
low_den n d h = rw (not_least d 2 h) refl

pub large_den : (n d : ℤ) → IsLarge false d → Err TooWide ≡ reduced n d
unfolding reduced
large_den n d h = rw (at_least d 2 (let l = h.large in let is = h.is in omega (arith, ints, l, is)), and_right (in_range n) (in_range d) (le-ltb (unsigned_abs d) (2 ^ 127) (size_large false d h))) refl

pub negative_den : (n d : ℤ) → IsLarge true d → Err BadNumber ≡ reduced n d
negative_den n d h = low_den n d (λ up. below_zero d h (omega (arith, ints, up)))

pub large_num : (n d : ℤ) (negative : Bool) → IsLarge negative n → pos 2 ≤ℤ d → Err TooWide ≡ reduced n d
unfolding reduced
large_num n d negative h up = rw (at_least d 2 up, and_left (in_range n) (in_range d) (le-ltb (unsigned_abs n) (2 ^ 127) (size_large negative n h))) refl

in_both : (n d : ℤ) → unsigned_abs n < 2 ^ 127 → unsigned_abs d < 2 ^ 127 → (in_range n && in_range d) ≡ true
in_both n d h k = rw (lt-ltb (unsigned_abs n) (2 ^ 127) h, lt-ltb (unsigned_abs d) (2 ^ 127) k) refl

pub lowest_ok : (n d : ℤ) → unsigned_abs n < 2 ^ 127 → unsigned_abs d < 2 ^ 127 → pos 2 ≤ℤ d → gcd (unsigned_abs n) (unsigned_abs d) ≡ 1 → Ok (rational n d) ≡ reduced n d
unfolding reduced
lowest_ok n d h k up one = rw (at_least d 2 up, in_both n d h k, eq-eqb _ _ one) refl

pub lowest_shared : (n d : ℤ) → unsigned_abs n < 2 ^ 127 → unsigned_abs d < 2 ^ 127 → pos 2 ≤ℤ d → (gcd (unsigned_abs n) (unsigned_abs d) ≡ 1 → ⊥) → Err BadNumber ≡ reduced n d
unfolding reduced
lowest_shared n d h k up many = rw (at_least d 2 up, in_both n d h k, ne_eqb _ _ many) refl

-- ---- bits

pub held : (z : ℤ) → FitsSigned w128 z → to_z w128 (of_z w128 z) ≡ z
held z f = simp to_z-of_z refl

pub as_count : (z : ℤ) (n : ℕ) → unsigned_abs z < 2 ^ 127 → n < 2 ^ 64 → of_z w128 z ≡ n → z ≡ pos n
as_count z n h k e = let f : FitsSigned w128 z = omega (arith, ints, h) in sym (held z f) ∙ ap (to_z w128) e ∙ omega (arith, ints)

pub of_count : (z : ℤ) (n : ℕ) → n < 2 ^ 64 → z ≡ pos n → of_z w128 z ≡ n
of_count z n k e = rw e (omega (arith, ints))

pub one_bits : (z : ℤ) (g : ℕ) → z ≡ pos g → unsigned_abs z < 2 ^ 127 → of_z w128 z ≡ 1 → g ≡ 1
one_bits z g is h e = let f = as_count z 1 h (omega arith) e in omega (arith, ints, is, f)

pub bits_one : (z : ℤ) (g : ℕ) → z ≡ pos g → g ≡ 1 → of_z w128 z ≡ 1
bits_one z g is e = of_count z 1 (omega arith) (is ∙ ap pos e)

pub short_bits : (z : ℤ) → FitsSigned w64 z → to_z w64 (of_z w64 z) ≡ z
short_bits z f = simp to_z-of_z refl

-- ---- the two sides of a byte

any_of : (p : ℕ → Bool) (bs : List ℕ) → position_or_len p bs < length bs → list_any p bs ≡ true
any_of p [] h = absurd (omega arith)
any_of p (x ∷ xs) h =
    elim (cases_Bool (p x)) [
      | inl t ↦ rw t refl
      | inr f ↦
          let at : position_or_len p (x ∷ xs) ≡ 1 + position_or_len p xs = rw f refl in
          rw (f, any_of p xs (omega (arith, at, h))) refl
    ]

none_of : (p : ℕ → Bool) (bs : List ℕ) → length bs ≤ position_or_len p bs → list_any p bs ≡ false
none_of p [] h = refl
none_of p (x ∷ xs) h =
    elim (cases_Bool (p x)) [
      | inl t ↦ let at : position_or_len p (x ∷ xs) ≡ 0 = rw t refl in absurd (omega (arith, at, h))
      | inr f ↦
          let at : position_or_len p (x ∷ xs) ≡ 1 + position_or_len p xs = rw f refl in
          rw (f, none_of p xs (omega (arith, at, h))) refl
    ]

pub sides_found : (p : ℕ → Bool) (bs : List ℕ) (at : ℕ) → Some at ≡ position p bs → (list_any p bs ≡ true) × (take at bs ≡ before_first p bs) × (drop (at + 1) bs ≡ after_first p bs)
sides_found p bs at e =
    elim (cases_Bool (nat_lt (position_or_len p bs) (length bs))) [
      | inl t ↦
          let same : Some at ≡ Some (position_or_len p bs) = e ∙ cond-true _ _ _ t in
          let is : at ≡ position_or_len p bs = cc in
          (any_of p bs (ltb-true _ _ t), ap (λ n. take n bs) is, ap (λ n. drop (n + 1) bs) is)
      | inr f ↦ let bad : Some at ≡ None = e ∙ cond-false _ _ _ f in absurd (let worse = bad in cc)
    ]

pub sides_missing : (p : ℕ → Bool) (bs : List ℕ) → None ≡ position p bs → list_any p bs ≡ false
sides_missing p bs e =
    elim (cases_Bool (nat_lt (position_or_len p bs) (length bs))) [
      | inl t ↦ let bad : None ≡ Some (position_or_len p bs) = e ∙ cond-true _ _ _ t in absurd (let worse = bad in cc)
      | inr f ↦ none_of p bs (ltb-false _ _ f)
    ]

-- ---- fractions by their sides

pub fraction_parts : (word num den : List ℕ) → list_any (is_byte 47) word ≡ true → num ≡ before_first (is_byte 47) word → den ≡ after_first (is_byte 47) word → fraction_said word ≡ then_step (numeral num) (λ n. then_step (numeral den) (λ d. reduced n d))
unfolding fraction_said parts_word
fraction_parts word num den slash front back = rw (front, back) (cond-true _ _ _ slash)

pub fraction_whole : (word : List ℕ) → list_any (is_byte 47) word ≡ false → fraction_said word ≡ then_step (whole_word word) (λ z. Ok (rational z (pos 1)))
unfolding fraction_said
fraction_whole word plain = cond-false _ _ _ plain

-- ---- a tolerance

pub thousandths_ok : (word : List ℕ) (z : ℤ) → Ok z ≡ from_zero_word word → FitsSigned w64 z → Ok z ≡ tolerance_said word
unfolding tolerance_said natural_word from_zero_word
thousandths_ok word (pos n) e f = rw (natural_ok (2 ^ 63) word (pos n) n e refl (omega (arith, ints, f))) refl
thousandths_ok word (negsuc n) e f = absurd (not_negative (numeral word) n e)

pub thousandths_wide : (word : List ℕ) (z : ℤ) → Ok z ≡ from_zero_word word → (FitsSigned w64 z → ⊥) → Err TooWide ≡ tolerance_said word
unfolding tolerance_said
thousandths_wide word z e f = rw (natural_wide (2 ^ 63) word z e (λ up below. f (omega (arith, ints, up, below)))) refl

-- a number that is read is from 0 on
pub zero_natural : (word : List ℕ) (z : ℤ) → Ok z ≡ from_zero_word word → unsigned_abs z < 2 ^ 127 → (natural_word (2 ^ 127) word ≡ Ok (unsigned_abs z)) × (z ≡ pos (unsigned_abs z))
unfolding from_zero_word natural_word
zero_natural word (pos n) e h = (natural_ok (2 ^ 127) word (pos n) n e refl h, refl)
zero_natural word (negsuc n) e h = absurd (not_negative (numeral word) n e)
