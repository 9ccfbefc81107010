-- The values of options: which words stand for them.
use Rattle.std.specs.Prelude.{ℕ, ℤ, pos, nat_abs, int_le, ◌&&◌, Option, Some, None, Result, Ok, Err}
use Rattle.std.specs.Prelude.{if◌then◌else◌}
use Rattle.um_text.specs.Numerals.{whole_number}
use Rattle.um_text.specs.declared.numeral.NumberFault.{NumberFault}
use Rattle.um_words.specs.Words.{Word}

-- a number from 1 to the most; no other is in range
abbrev pub in_range : (most : ℕ) → Result ℤ NumberFault → Option ℕ
in_range most (Ok number) =
    if int_le (pos 1) number && int_le number (pos most) then Some (nat_abs number) else None
in_range most (Err fault) = None

-- the number that a whole numeral stands for, from 1 to the most
abbrev pub number_word : (most : ℕ) → Word → Option ℕ
number_word most word = in_range most (whole_number word)

-- the number that an option asks for: that of its value, and the most where the option is not there
abbrev pub number_asked : (most : ℕ) → Option Word → Option ℕ
number_asked most None = Some most
number_asked most (Some word) = number_word most word
