-- A word that is read as a fraction is the fraction's word.
use Rattle.std.proofs.Common.{◌≡◌, ◌≢◌, ℕ, suc, ◌+◌, ◌^◌, ◌<◌, ◌≤ℤ◌, nat_eq, Bool, true, false, not, ◌&&◌, List, [], ◌∷◌, ◌++◌, take, drop, ℤ, pos, unsigned_abs, Option, Some, None, IfSome, Ok, codes, refl, sym, ap, ◌∙◌, subst, arith, inl, inr}
use Rattle.std.specs.Fmt.{decimal, signed_decimal}
use Rattle.std.specs.List.{list_any, before_first, after_first, position_or_len}
use Rattle.std.specs.Str.{bytes_eq}
use Rattle.std.specs.Int.{◌∣◌}
use Rattle.std.proofs.Math.Nat.{eq-one_of_dvd-one}
use Rattle.std.proofs.lemmas.Int.{ints}
use Rattle.std.proofs.lemmas.Bool.{cases_Bool, and_parts, ltb-true, eqb-true, not-false, ne_eqb}
use Rattle.um_laws.specs.Divisors.{Coprime, gcd}
use Rattle.um_laws.specs.LowestTerms.{gcd_is, one_reduced}
use Rattle.um_laws.specs.Rational.{Rational}
use Rattle.um_num.specs.Numbers.{in_range, IsInRange, IsReduced, then_step}
use Rattle.um_num.specs.Views.{rational, num_is, den_is}
use Rattle.um_text.specs.NumberWords.{fraction_word, fraction_or_none, is_slash}
use Rattle.um_treetext.specs.declared.fault.TreeWord.TheVariants.{BadNumber, TooWide}
use Rattle.um_treetext.specs.Words.{numeral, whole_word, is_at_least, reduced, parts_word, fraction_said, fraction_or_none_said}
use Rattle.um_treetext.specs.Writable.{IsWritableFraction}
use Rattle.um_treelaws.proofs.ReadSteps.{steps, same_ok, keeps, keeps_last, same_bytes, SaysAs}
use Rattle.um_treelaws.proofs.ReadDigits.{numeral_rewritten}
use Rattle.um_treelaws.proofs.ReadNumbers.{whole_rewritten, least_rewritten}

-- ---- the two sides of a byte

place_on : (p : ℕ → Bool) (x : ℕ) (xs : List ℕ) → p x ≡ false → position_or_len p (x ∷ xs) ≡ suc (position_or_len p xs)
place_on p x xs e = rw e (omega arith)

before_on : (p : ℕ → Bool) (x : ℕ) (xs : List ℕ) → p x ≡ false → before_first p (x ∷ xs) ≡ x ∷ before_first p xs
before_on p x xs e = ap (λ n. take n (x ∷ xs)) (place_on p x xs e)

after_on : (p : ℕ → Bool) (x : ℕ) (xs : List ℕ) → p x ≡ false → after_first p (x ∷ xs) ≡ after_first p xs
after_on p x xs e =
    let place = place_on p x xs e in
    let next : position_or_len p (x ∷ xs) + 1 ≡ suc (position_or_len p xs + 1) = omega (arith, place) in
    ap (λ n. drop n (x ∷ xs)) next

before_at : (p : ℕ → Bool) (x : ℕ) (xs : List ℕ) → p x ≡ true → before_first p (x ∷ xs) ≡ []
before_at p x xs e = rw e refl

after_at : (p : ℕ → Bool) (x : ℕ) (xs : List ℕ) → p x ≡ true → after_first p (x ∷ xs) ≡ xs
after_at p x xs e = rw e refl

-- a word with this byte is what stands before the first, the byte, and what stands behind
sides : (c : ℕ) (bs : List ℕ) → list_any (λ b. nat_eq b c) bs ≡ true → bs ≡ before_first (λ b. nat_eq b c) bs ++ c ∷ after_first (λ b. nat_eq b c) bs
sides c [] t = absurd (let bad = t in cc)
sides c (x ∷ xs) t =
    let p = λ (b : ℕ). nat_eq b c in
    elim (cases_Bool (nat_eq x c)) [
      | inl here ↦
          let is = eqb-true x c here in
          ap (λ (y : ℕ). y ∷ xs) is ∙ sym (ap (λ (l : List ℕ). l ++ c ∷ after_first p (x ∷ xs)) (before_at p x xs here) ∙ ap (λ (l : List ℕ). c ∷ l) (after_at p x xs here))
      | inr other ↦
          let more : list_any p xs ≡ true = rw other at t in
          ap (λ (l : List ℕ). x ∷ l) (sides c xs more) ∙ sym (ap (λ (l : List ℕ). l ++ c ∷ after_first p (x ∷ xs)) (before_on p x xs other) ∙ ap (λ (l : List ℕ). x ∷ (before_first p xs ++ c ∷ l)) (after_on p x xs other))
    ]

-- the same where the two sides are written so
pub sides_written : (c : ℕ) (word first second : List ℕ) → list_any (λ b. nat_eq b c) word ≡ true → before_first (λ b. nat_eq b c) word ≡ first → after_first (λ b. nat_eq b c) word ≡ second → word ≡ first ++ c ∷ second
sides_written c word first second t e f =
    let back = after_first (λ (b : ℕ). nat_eq b c) word in
    sides c word t ∙ ap (λ (w : List ℕ). w ++ c ∷ back) e ∙ ap (λ (w : List ℕ). first ++ c ∷ w) f

-- ---- fractions

one_gcd : (a b : ℕ) → gcd a b ≡ 1 → Coprime a b
one_gcd a b e d h k = eq-one_of_dvd-one (subst (λ (x : ℕ). d ∣ x) e ((gcd_is a b).2 d h k))

-- the parts of a fraction in lowest terms, the lower one from 2 on
record IsLowest (num den : ℤ) (x : Rational) : Type 0 where
  least : pos 2 ≤ℤ den
  above : IsInRange num
  below : IsInRange den
  num_same : x.num ≡ num
  den_same : pos x.den ≡ den

reduced_rewritten : (num den : ℤ) (x : Rational) → reduced num den ≡ Ok x → IsLowest num den x
unfolding reduced
reduced_rewritten num den x e =
    let low = not (is_at_least 2 den) in
    let wide = not (in_range num && in_range den) in
    let shared = not (nat_eq (gcd (unsigned_abs num) (unsigned_abs den)) 1) in
    let one = keeps low BadNumber ((wide, TooWide) ∷ (shared, BadNumber) ∷ []) (rational num den) x e in
    let two = keeps wide TooWide ((shared, BadNumber) ∷ []) (rational num den) x one.1 in
    let three = keeps_last shared BadNumber (rational num den) x two.1 in
    let least : pos 2 ≤ℤ den = least_rewritten 2 den (not-false (is_at_least 2 den) one.0) in
    let both = and_parts (in_range num) (in_range den) (not-false (in_range num && in_range den) two.0) in
    let above : IsInRange num = ltb-true (unsigned_abs num) (2 ^ 127) both.0 in
    let below : IsInRange den = ltb-true (unsigned_abs den) (2 ^ 127) both.1 in
    let divisor = eqb-true (gcd (unsigned_abs num) (unsigned_abs den)) 1 (not-false (nat_eq (gcd (unsigned_abs num) (unsigned_abs den)) 1) three.0) in
    let lowest : IsReduced num den = record { positive = omega (arith, ints, least); num_in = above; den_in = below; coprime = one_gcd (unsigned_abs num) (unsigned_abs den) divisor } in
    record {
      least = least;
      above = above;
      below = below;
      num_same = ap (λ (y : Rational). y.num) (sym three.1) ∙ num_is num den lowest;
      den_same = ap (λ (y : Rational). pos y.den) (sym three.1) ∙ den_is num den lowest;
    }

two_parts : (x : Rational) → x.den ≢ 1 → fraction_word x ≡ signed_decimal x.num ++ 47 ∷ decimal x.den
two_parts x more = rw (ne_eqb x.den 1 more) refl

one_part : (x : Rational) → x.den ≡ 1 → fraction_word x ≡ signed_decimal x.num
one_part x one = rw one refl

den_above : (d : ℕ) (den : ℤ) → pos d ≡ den → pos 2 ≤ℤ den → d ≢ 1
den_above d den e h one = omega (arith, ints, e, h, one)

den_below : (d : ℕ) (den : ℤ) → pos d ≡ den → IsInRange den → d < 2 ^ 127
den_below d den e h = subst (λ (z : ℤ). unsigned_abs z < 2 ^ 127) (sym e) h

parts_rewritten : (word : List ℕ) (x : Rational) → list_any is_slash word ≡ true → parts_word word ≡ Ok x → (word ≡ fraction_word x) × IsWritableFraction x
unfolding parts_word
parts_rewritten word x slash e =
    let front = before_first is_slash word in
    let back = after_first is_slash word in
    let s = steps (numeral front) (λ num. then_step (numeral back) (λ den. reduced num den)) x e in
    let t = steps (numeral back) (λ den. reduced s.value den) x s.two in
    let l = reduced_rewritten s.value t.value x t.two in
    let num : front ≡ signed_decimal x.num = numeral_rewritten front s.value s.one l.above ∙ ap signed_decimal (sym l.num_same) in
    let den : back ≡ decimal x.den = numeral_rewritten back t.value t.one l.below ∙ ap signed_decimal (sym l.den_same) in
    let whole : word ≡ signed_decimal x.num ++ 47 ∷ decimal x.den = sides_written 47 word (signed_decimal x.num) (decimal x.den) slash num den in (
      whole ∙ sym (two_parts x (den_above x.den t.value l.den_same l.least)),
      record { num = subst IsInRange (sym l.num_same) l.above; den = den_below x.den t.value l.den_same l.below },
    )

whole_reduced : (z : ℤ) → IsInRange z → IsReduced z (pos 1)
whole_reduced z h = record { positive = omega (arith, ints); num_in = h; den_in = omega arith; coprime = one_reduced (unsigned_abs z) }

pub fraction_rewritten : SaysAs fraction_said fraction_word IsWritableFraction
unfolding fraction_said
fraction_rewritten word x e =
    elim (cases_Bool (list_any is_slash word)) [
      | inl slash ↦ parts_rewritten word x slash (rw slash at e)
      | inr plain ↦
          let f : then_step (whole_word word) (λ z. Ok (rational z (pos 1))) ≡ Ok x = rw plain at e in
          let s = steps (whole_word word) (λ z. Ok (rational z (pos 1))) x f in
          let w = whole_rewritten word s.value s.one in
          let lowest = whole_reduced s.value w.1 in
          let same : rational s.value (pos 1) ≡ x = same_ok (Ok (rational s.value (pos 1))) (rational s.value (pos 1)) x refl s.two in
          let num : x.num ≡ s.value = ap (λ (y : Rational). y.num) (sym same) ∙ num_is s.value (pos 1) lowest in
          let den : pos x.den ≡ pos 1 = ap (λ (y : Rational). pos y.den) (sym same) ∙ den_is s.value (pos 1) lowest in
          (w.0 ∙ ap signed_decimal (sym num) ∙ sym (one_part x (omega (arith, ints, den))), record { num = subst IsInRange (sym num) w.1; den = den_below x.den (pos 1) den (omega arith) })
    ]

abbrev pub IsWritableValue : Option Rational → Type 0
IsWritableValue o = IfSome o IsWritableFraction

pub fraction_or_none_rewritten : SaysAs fraction_or_none_said fraction_or_none IsWritableValue
unfolding fraction_or_none_said
fraction_or_none_rewritten word o e =
    elim (cases_Bool (bytes_eq word (codes "none"))) [
      | inl t ↦
          let f : Ok None ≡ Ok o = rw t at e in
          let same : None ≡ o = same_ok (Ok None) None o refl f in
          subst (λ (p : Option Rational). (word ≡ fraction_or_none p) × IsWritableValue p) same (same_bytes word (codes "none") t, tt)
      | inr t ↦
          let f : then_step (fraction_said word) (λ x. Ok (Some x)) ≡ Ok o = rw t at e in
          let s = steps (fraction_said word) (λ x. Ok (Some x)) o f in
          let same : Some s.value ≡ o = same_ok (Ok (Some s.value)) (Some s.value) o refl s.two in
          subst (λ (p : Option Rational). (word ≡ fraction_or_none p) × IsWritableValue p) same (fraction_rewritten word s.value s.one)
    ]
