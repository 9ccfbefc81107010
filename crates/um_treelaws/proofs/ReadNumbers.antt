-- A word that is read as a number of a field is that number's numeral.
use Rattle.std.proofs.Common.{◌≡◌, ℕ, ◌^◌, ◌<◌, ◌≤◌, ◌≤ℤ◌, nat_lt, true, not, [], ◌∷◌, ℤ, pos, negsuc, unsigned_abs, Ok, refl, ap, ◌∙◌, subst, arith}
use Rattle.std.specs.Fmt.{decimal, signed_decimal}
use Rattle.std.proofs.lemmas.Int.{ints}
use Rattle.std.proofs.lemmas.Bool.{leb-true, ltb-true, not-false}
use Rattle.um_num.specs.Numbers.{in_range, IsInRange, then_step}
use Rattle.um_treetext.specs.declared.fault.TreeWord.TheVariants.{TooWide}
use Rattle.um_treetext.specs.Words.{kept, numeral, from_zero, natural_word, from_zero_word, whole_word, short_word, is_short, is_at_least}
use Rattle.um_treelaws.proofs.ReadSteps.{steps, same_ok, keeps_last, SaysAs}
use Rattle.um_treelaws.proofs.ReadDigits.{numeral_rewritten}

-- ---- numbers of a field

pub from_zero_rewritten : (z : ℤ) (n : ℕ) → from_zero z ≡ Ok n → z ≡ pos n
from_zero_rewritten (pos m) n e = let same : m ≡ n = cc in ap pos same
from_zero_rewritten (negsuc m) n e = absurd (let bad = e in cc)

abbrev pub IsBelow : ℕ → ℕ → Type 0
IsBelow limit n = n < limit

pub natural_rewritten : (limit : ℕ) → limit ≤ 2 ^ 127 → SaysAs (natural_word limit) decimal (IsBelow limit)
unfolding natural_word
natural_rewritten limit within word n e =
    let s = steps (numeral word) (λ z. then_step (from_zero z) (λ n. kept ((not (nat_lt n limit), TooWide) ∷ []) n)) n e in
    let t = steps (from_zero s.value) (λ n. kept ((not (nat_lt n limit), TooWide) ∷ []) n) n s.two in
    let k = keeps_last (not (nat_lt t.value limit)) TooWide t.value n t.two in
    let is : s.value ≡ pos n = from_zero_rewritten s.value t.value t.one ∙ ap pos k.1 in
    let below : n < limit = subst (λ (m : ℕ). m < limit) k.1 (ltb-true t.value limit (not-false (nat_lt t.value limit) k.0)) in
    (numeral_rewritten word (pos n) (s.one ∙ ap (λ (x : ℤ). Ok x) is) (omega (arith, below, within)), below)

-- a number from 0 on, in range
pub record IsFromZero (z : ℤ) : Type 0 where
  pub up : pos 0 ≤ℤ z
  pub range : IsInRange z

pub from_zero_word_rewritten : SaysAs from_zero_word signed_decimal IsFromZero
unfolding from_zero_word
from_zero_word_rewritten word z e =
    let s = steps (natural_word (2 ^ 127) word) (λ n. Ok (pos n)) z e in
    let n = natural_rewritten (2 ^ 127) (omega arith) word s.value s.one in
    let same : pos s.value ≡ z = same_ok (Ok (pos s.value)) (pos s.value) z refl s.two in
    subst (λ (x : ℤ). (word ≡ signed_decimal x) × IsFromZero x) same (n.0, record { up = omega (arith, ints); range = n.1 })

pub whole_rewritten : SaysAs whole_word signed_decimal IsInRange
unfolding whole_word
whole_rewritten word z e =
    let s = steps (numeral word) (λ z. kept ((not (in_range z), TooWide) ∷ []) z) z e in
    let k = keeps_last (not (in_range s.value)) TooWide s.value z s.two in
    let range : IsInRange s.value = ltb-true (unsigned_abs s.value) (2 ^ 127) (not-false (in_range s.value) k.0) in
    subst (λ (x : ℤ). (word ≡ signed_decimal x) × IsInRange x) k.1 (numeral_rewritten word s.value s.one range, range)

short_size : (z : ℤ) → is_short z ≡ true → unsigned_abs z < 2 ^ 127
short_size (pos n) e = let h = ltb-true n (2 ^ 63) e in omega (arith, h)
short_size (negsuc n) e = let h = ltb-true n (2 ^ 63) e in omega (arith, h)

abbrev pub IsShort : ℤ → Type 0
IsShort z = is_short z ≡ true

pub short_rewritten : SaysAs short_word signed_decimal IsShort
unfolding short_word
short_rewritten word z e =
    let s = steps (numeral word) (λ z. kept ((not (is_short z), TooWide) ∷ []) z) z e in
    let k = keeps_last (not (is_short s.value)) TooWide s.value z s.two in
    let short = not-false (is_short s.value) k.0 in
    subst (λ (x : ℤ). (word ≡ signed_decimal x) × IsShort x) k.1 (numeral_rewritten word s.value s.one (short_size s.value short), short)

-- a number that is at least this
pub least_rewritten : (least : ℕ) (z : ℤ) → is_at_least least z ≡ true → pos least ≤ℤ z
least_rewritten least (pos n) t = let h = leb-true least n t in omega (arith, ints, h)
least_rewritten least (negsuc n) t = absurd (let bad = t in cc)
