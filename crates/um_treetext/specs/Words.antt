-- The words of a tree's lines: what a word says in its place, or the rule that it breaks there.
use Rattle.std.specs.Prelude.{ℕ, ◌^◌, Bool, true, false, ◌&&◌, ◌||◌, not, nat_eq, nat_le, nat_lt, unsigned_abs, if◌then◌else◌, ℤ, pos, negsuc, List, [], ◌∷◌, Option, Some, None, Result, Ok, Err, codes}
use Rattle.std.specs.List.{list_any, before_first, after_first}
use Rattle.std.specs.Str.{bytes_eq}
use Rattle.um_laws.specs.Divisors.{gcd}
use Rattle.um_laws.specs.Rational.{Rational}
use Rattle.um_num.specs.Numbers.{in_range, then_step}
use Rattle.um_num.specs.Views.{rational}
use Rattle.um_text.specs.Lines.{piece_with}
use Rattle.um_text.specs.Numerals.{whole_value}
use Rattle.um_text.specs.NumberWords.{is_slash}
use Rattle.um_treetext.specs.declared.fault.TreeWord.{TreeWord}
use Rattle.um_treetext.specs.declared.fault.TreeWord.TheVariants.{BadWord, BadNumber, TooWide}

abbrev pub Words : Type 0
Words = List (List ℕ)

-- The words of a line: its pieces between single blanks. A blank at either end and two blanks in a row leave an empty
-- piece, which is no word. A tab leaves one too, and nothing behind it is looked at.
unfoldable pub line_words : List ℕ → Words
line_words [] = [] ∷ []
line_words (x ∷ xs) =
    if nat_eq x 32 then [] ∷ line_words xs
    else if nat_eq x 9 then [] ∷ [] ∷ []
    else piece_with x (line_words xs)

-- ---- rules

-- what a word or a line says, or the rule that it breaks
abbrev pub Says : Type 0 → Type 0
Says A = Result A TreeWord

-- a rule: whether it is broken, and the fault that says so
abbrev pub Rule : Type 0
Rule = Bool × TreeWord

-- the value where no rule is broken, and else the fault of the first that is
abbrev pub kept : {A : Type 0} → List Rule → A → Says A
kept [] value = Ok value
kept (r ∷ rules) value = if r.0 then Err r.1 else kept rules value

-- the value, or this fault where there is none
abbrev pub some_or : {A : Type 0} → TreeWord → Option A → Says A
some_or fault None = Err fault
some_or fault (Some value) = Ok value

-- ---- words from left to right

-- what the first words of a line say, and the words behind them
pub record Taken (A : Type 0) : Type 0 where
  pub value : A
  pub left : Words

abbrev pub told : {A : Type 0} → A → Words → Says (Taken A)
told value ws = Ok (record { value = value; left = ws })

-- the next word: there must be one, and it may not be empty
unfoldable pub next_word : Words → Says (Taken (List ℕ))
next_word [] = Err BadWord
next_word ([] ∷ ws) = Err BadWord
next_word ((b ∷ bs) ∷ ws) = told (b ∷ bs) ws

-- what the next word says
unfoldable pub taking : {A : Type 0} → (List ℕ → Says A) → Words → Says (Taken A)
taking says ws = then_step (next_word ws) (λ w. then_step (says w.value) (λ v. told v w.left))

-- the words behind this fixed word, which must come next
unfoldable pub fixed : List ℕ → Words → Says Words
fixed word ws = then_step (next_word ws) (λ w. if bytes_eq w.value word then Ok w.left else Err BadWord)

-- whether this word comes next
unfoldable pub is_next : List ℕ → Words → Bool
is_next word [] = false
is_next word (w ∷ ws) = bytes_eq w word

-- no further word may come
abbrev pub ended : Words → Says Words
ended [] = Ok []
ended (w ∷ ws) = Err BadWord

-- the value, where no further word comes
abbrev pub over : {A : Type 0} → A → Words → Says A
over value ws = then_step (ended ws) (λ done. Ok value)

-- what the last word says
abbrev pub sole : {A : Type 0} → (List ℕ → Says A) → Words → Says A
sole says ws = then_step (taking says ws) (λ t. over t.value t.left)

-- what is said behind a label
abbrev pub labelled : {A : Type 0} → List ℕ → (Words → Says A) → Words → Says A
labelled label says ws = then_step (fixed label ws) says

-- the value beside the first of these words that is this one
abbrev pub called : {A : Type 0} → List (List ℕ × A) → List ℕ → Says A
called [] word = Err BadWord
called (p ∷ ps) word = if bytes_eq word p.0 then Ok p.1 else called ps word

-- ---- whole numbers

-- the number of a numeral, however large
unfoldable pub numeral : List ℕ → Says ℤ
numeral word = some_or BadNumber (whole_value word)

abbrev pub from_zero : ℤ → Says ℕ
from_zero (pos n) = Ok n
from_zero (negsuc n) = Err BadNumber

-- a number from 0 on, below the limit of its field
unfoldable pub natural_word : ℕ → List ℕ → Says ℕ
natural_word limit word = then_step (numeral word) (λ z. then_step (from_zero z) (λ n. kept ((not (nat_lt n limit), TooWide) ∷ []) n))

-- the same as a number of 128 bits
unfoldable pub from_zero_word : List ℕ → Says ℤ
from_zero_word word = then_step (natural_word (2 ^ 127) word) (λ n. Ok (pos n))

-- a number in range
unfoldable pub whole_word : List ℕ → Says ℤ
whole_word word = then_step (numeral word) (λ z. kept ((not (in_range z), TooWide) ∷ []) z)

-- from -(2 ^ 63) to 2 ^ 63 - 1
abbrev pub is_short : ℤ → Bool
is_short (pos n) = nat_lt n (2 ^ 63)
is_short (negsuc n) = nat_lt n (2 ^ 63)

-- a number of 64 bits
unfoldable pub short_word : List ℕ → Says ℤ
short_word word = then_step (numeral word) (λ z. kept ((not (is_short z), TooWide) ∷ []) z)

-- ---- fractions

abbrev pub is_at_least : ℕ → ℤ → Bool
is_at_least least (pos n) = nat_le least n
is_at_least least (negsuc n) = false

-- the fraction of two parts in lowest terms, the lower one from 2 on
unfoldable pub reduced : ℤ → ℤ → Says Rational
reduced num den = kept (
    (not (is_at_least 2 den), BadNumber)
    ∷ (not (in_range num && in_range den), TooWide)
    ∷ (not (nat_eq (gcd (unsigned_abs num) (unsigned_abs den)) 1), BadNumber) ∷ []) (rational num den)

-- two numerals with `/` between
unfoldable pub parts_word : List ℕ → Says Rational
parts_word word =
    then_step (numeral (before_first is_slash word)) (λ num.
    then_step (numeral (after_first is_slash word)) (λ den. reduced num den))

-- a whole number, or one over another
unfoldable pub fraction_said : List ℕ → Says Rational
fraction_said word =
    if list_any is_slash word then parts_word word
    else then_step (whole_word word) (λ z. Ok (rational z (pos 1)))

unfoldable pub fraction_or_none_said : List ℕ → Says (Option Rational)
fraction_or_none_said word =
    if bytes_eq word (codes "none") then Ok None
    else then_step (fraction_said word) (λ x. Ok (Some x))
