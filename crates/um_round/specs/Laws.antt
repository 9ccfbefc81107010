-- Laws on the normal text of decks.
use Rattle.std.specs.Prelude.{◌%◌, ◌≢◌, ◌≡◌, ℕ, ◌<◌, ◌≤◌, ◌^◌, ℤ, unsigned_abs, true, length, Some, Ok}
use Rattle.um_text.specs.Decimals.{decimal_value}
use Rattle.um_text.specs.Words.{is_word}
use Rattle.um_model.specs.Values.{DeckValue}
use Rattle.um_model.specs.WellFormed.{IsDeck}
use Rattle.um_model.specs.declared.limits.TheConstants.{MOST_DECK_BYTES}
use Rattle.um_statements.specs.Laws.{IsDeckOfObjective}
use Rattle.um_statements.specs.Scaled.{times_ten, decimals}
use Rattle.um_decktext.specs.Numbers.{number}
use Rattle.um_make.specs.Numerals.{numeral}
use Rattle.um_make.specs.NormalLines.{normal_lines, normal_text}
use Rattle.um_decktext.specs.DeckLines.{deck_lines}
use Rattle.um_decktext.specs.DeckText.{DeckText}
use Rattle.um_round.specs.Numerals.{written}
use Rattle.um_round.specs.Sayable.{HasWordNames}

-- A written numeral is one word, and is read as the number that was written; at its scale that is the number again; and
-- it has as many decimals as its scale where it isn't a multiple of ten.
pub record NumeralLaw : Type 0 where
  pub word : (k : ℕ) (z : ℤ) → unsigned_abs z < 10 ^ 64 → is_word (numeral k z) ≡ true
  pub value : (k : ℕ) (z : ℤ) → unsigned_abs z < 10 ^ 64 → decimal_value (numeral k z) ≡ Some (written k z)
  pub number : (k : ℕ) (z : ℤ) → unsigned_abs z < 10 ^ 30 → k ≤ 6 → number (numeral k z) ≡ Ok (written k z)
  pub scaled : (k : ℕ) (z : ℤ) → times_ten (written k z) k ≡ z
  pub fine : (k : ℕ) (z : ℤ) → unsigned_abs z % 10 ≢ 0 → decimals (written k z) ≡ k
  pub most : (k : ℕ) (z : ℤ) → decimals (written k z) ≤ k

-- the lines of a deck's normal text are its normal lines
abbrev pub NormalLinesLaw : Type 0
NormalLinesLaw = (d : DeckValue) → IsDeck d → HasWordNames d → deck_lines (normal_text d) ≡ normal_lines d

-- The normal text of a deck whose arcs are in the objective is a deck text of that deck, and so of no other, where it is no
-- longer than a text may be.
abbrev pub RoundLaw : Type 0
RoundLaw = (d : DeckValue) → IsDeckOfObjective d → HasWordNames d → length (normal_text d) ≤ MOST_DECK_BYTES → DeckText (normal_text d) d
