use Rattle.std.proofs.Common.{refl}
use Rattle.um_text.specs.Lines.{pieces, without_return, lines}
use Rattle.um_text.specs.Decimals.{unsigned, is_decimal, exponent_value, tens, normal, decimal_value, fitting, decimal_number}
use Rattle.um_text.specs.Numerals.{places}
use Rattle.um_statements.specs.Said.{collected}
use Rattle.um_statements.specs.CallRules.{rules_of, with_statement}
use Rattle.um_statements.specs.DeckRules.{deck_rules}
use Rattle.um_statements.specs.Made.{deck_value}
use Rattle.um_decktext.specs.DeckLines.{line_of, deck_lines, section_now, data_now}
use Rattle.um_decktext.specs.Places.{place_of}
use Rattle.um_decktext.specs.LinesSay.{line_says}
use Rattle.um_decktext.specs.DeckText.{told, line_fault, counted, broken, text_fault, text_deck}
use Rattle.um_mps.proofs.laws.more_faults.Goals as goal

pub returns-clause-first : goal.returns-clause-first
unfolding pieces without_return lines unsigned is_decimal exponent_value tens normal decimal_value fitting decimal_number places collected rules_of with_statement deck_rules line_of deck_lines section_now data_now place_of line_says told line_fault counted broken text_fault text_deck deck_value
returns-clause-first c = record { before = refl; end_early = refl; sense_line = refl; marker_five = refl; unclosed_junk = refl; first_pair = refl; range_words = refl; fr_set = refl; in_name = refl; again = refl; sense_words = refl; inside = refl; column_again = refl; unknown_row = refl; kind_other_set = refl; fine_infinite = refl; sc_on_integer = refl; range_skipped = refl; rows_missing = refl; junk = refl; star = refl; outside = refl }

pub returns-clause-second : goal.returns-clause-second
unfolding pieces without_return lines unsigned is_decimal exponent_value tens normal decimal_value fitting decimal_number places collected rules_of with_statement deck_rules line_of deck_lines section_now data_now place_of line_says told line_fault counted broken text_fault text_deck deck_value
returns-clause-second c = record { column_marker = refl; rhs_twice = refl; words_other_set = refl; fx_large = refl; bv_up = refl; set_twice = refl; arc_row = refl; columns_missing = refl; sense_head = refl; marker_words = refl; unclosed = refl; zero_twice = refl; rhs_none = refl; kind_words = refl; up_low = refl; side_large = refl; columns_first = refl; end_words = refl; range_fine = refl; semi_bare = refl; semi_other_set = refl }
