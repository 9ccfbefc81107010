-- What reading back gives of what was written.
use Rattle.std.specs.Prelude.{◌≡◌, ◌≢◌, ◌<◌, ◌^◌, true, List, [], ℕ, map, ℤ, pos, Ok}
use Rattle.std.specs.Fmt.{signed_decimal}
use Rattle.std.specs.List.{list_all, before_first, after_first}
use Rattle.um_laws.specs.Rational.{Rational}
use Rattle.um_num.specs.Numbers.{IsInRange}
use Rattle.um_text.specs.Numerals.{whole_number}
use Rattle.um_text.specs.NumberWords.{fraction_word, is_slash}
use Rattle.um_text.specs.Words.{is_word, words}
use Rattle.um_text.specs.Lines.{is_line_byte, lines}
use Rattle.um_text.specs.Texts.{behind_blanks, line_bytes, lines_text}

-- the numeral of a number in range is a word, which is read as that number
pub record WholeLaw : Type 0 where
  pub word : (z : ℤ) → IsInRange z → is_word (signed_decimal z) ≡ true
  pub back : (z : ℤ) → IsInRange z → whole_number (signed_decimal z) ≡ Ok z

-- The word of a fraction whose parts are in range is a word. What stands before its slash is read as the numerator, and
-- what stands behind it as the denominator; the word of a whole number has no slash.
pub record FractionLaw : Type 0 where
  pub word : (x : Rational) → IsInRange x.num → x.den < 2 ^ 127 → is_word (fraction_word x) ≡ true
  pub num : (x : Rational) → IsInRange x.num → whole_number (before_first is_slash (fraction_word x)) ≡ Ok x.num
  pub den : (x : Rational) → IsInRange x.num → x.den < 2 ^ 127 → x.den ≢ 1 → whole_number (after_first is_slash (fraction_word x)) ≡ Ok (pos x.den)
  pub one : (x : Rational) → IsInRange x.num → x.den ≡ 1 → after_first is_slash (fraction_word x) ≡ []

-- the words of a line that was written of words are these words, whether a blank stands in front or not
pub record LineLaw : Type 0 where
  pub line : (ws : List (List ℕ)) → list_all is_word ws ≡ true → words (line_bytes ws) ≡ ws
  pub rest : (ws : List (List ℕ)) → list_all is_word ws ≡ true → words (behind_blanks ws) ≡ ws

-- the lines of a text that was written of lines without CR and LF are these lines
abbrev pub LinesLaw : Type 0
LinesLaw = (ls : List (List (List ℕ))) → list_all (λ ws. list_all is_line_byte (line_bytes ws)) ls ≡ true → lines (lines_text ls) ≡ map line_bytes ls

-- the words of the lines of a text that was written of lines of words are these words
abbrev pub TextLaw : Type 0
TextLaw = (ls : List (List (List ℕ))) → list_all (list_all is_word) ls ≡ true → map words (lines (lines_text ls)) ≡ ls
