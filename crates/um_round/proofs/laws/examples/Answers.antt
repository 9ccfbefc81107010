use Rattle.std.proofs.Common.{refl, arith}
use Rattle.std.proofs.lemmas.Fmt.{decimal_digit}
use Rattle.um_text.specs.Lines.{pieces, without_return, lines}
use Rattle.um_text.specs.Decimals.{unsigned, is_decimal, exponent_value, tens, normal, decimal_value, fitting, decimal_number}
use Rattle.um_text.specs.Numerals.{places}
use Rattle.um_statements.specs.Said.{collected}
use Rattle.um_statements.specs.CallRules.{rules_of, with_statement}
use Rattle.um_statements.specs.DeckRules.{deck_rules}
use Rattle.um_statements.specs.Made.{deck_value}
use Rattle.um_decktext.specs.DeckLines.{line_of, deck_lines, section_now, data_now}
use Rattle.um_decktext.specs.Places.{place_of}
use Rattle.um_decktext.specs.LinesSay.{line_says}
use Rattle.um_decktext.specs.DeckText.{DeckText, told, line_fault, counted, broken, text_fault, text_deck}
use Rattle.um_make.specs.Numerals.{numeral}
use Rattle.um_make.specs.NormalLines.{normal_lines, normal_text}
use Rattle.um_round.specs.Examples.{small_deck, small_lines, text}
use Rattle.um_round.proofs.laws.examples.Goals as goal

small_read : DeckText (text small_lines) small_deck
unfolding pieces without_return lines unsigned is_decimal exponent_value tens normal decimal_value fitting decimal_number places collected rules_of with_statement deck_rules line_of deck_lines section_now data_now place_of line_says told line_fault counted broken text_fault text_deck deck_value
small_read = record { unbroken = refl; deck = refl }

pub returns : goal.returns
unfolding numeral normal_lines normal_text
returns c = record {
  whole = rw (decimal_digit 7 (omega arith)) refl;
  below_one = rw (decimal_digit 0 (omega arith)) refl;
  no_last_zero = rw (decimal_digit 1 (omega arith)) refl;
  zero_number = rw (decimal_digit 0 (omega arith)) refl;
  deck = rw (decimal_digit 0 (omega arith), decimal_digit 1 (omega arith), decimal_digit 2 (omega arith), decimal_digit 3 (omega arith), decimal_digit 4 (omega arith), decimal_digit 6 (omega arith), decimal_digit 7 (omega arith)) refl;
  read = small_read;
}
