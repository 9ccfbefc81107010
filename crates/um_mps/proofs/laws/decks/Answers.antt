use Rattle.std.proofs.Common.{refl}
use Rattle.um_text.specs.Lines.{pieces, without_return, lines}
use Rattle.um_text.specs.Decimals.{unsigned, is_decimal, exponent_value, tens, normal, decimal_value, fitting, decimal_number}
use Rattle.um_text.specs.Numerals.{places}
use Rattle.um_statements.specs.Said.{collected}
use Rattle.um_statements.specs.CallRules.{rules_of, with_statement}
use Rattle.um_statements.specs.DeckRules.{deck_rules}
use Rattle.um_statements.specs.Made.{deck_value}
use Rattle.um_decktext.specs.DeckLines.{line_of, deck_lines, section_now, data_now}
use Rattle.um_decktext.specs.Places.{place_of}
use Rattle.um_decktext.specs.LinesSay.{line_says}
use Rattle.um_decktext.specs.DeckText.{told, line_fault, counted, broken, text_fault, text_deck}
use Rattle.um_mps.proofs.laws.decks.Goals as goal

pub returns : goal.returns
unfolding pieces without_return lines unsigned is_decimal exponent_value tens normal decimal_value fitting decimal_number places collected rules_of with_statement deck_rules line_of deck_lines section_now data_now place_of line_says told line_fault counted broken text_fault text_deck deck_value
returns c = record { plant_said = refl; small_said = refl; range_sides = refl; first_set_sides = refl; first_set_constant = refl; forms_said = refl; forms_whole = refl }
