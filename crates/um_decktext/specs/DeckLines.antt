-- The lines of a deck's text: which count, and under which section they stand.
use Rattle.std.specs.Prelude.{ℕ, Bool, true, false, ◌||◌, nat_eq, if◌then◌else◌, List, length, map, slice_index, Option, Some, None}
use Rattle.std.specs.List.{filter_map, list_any, after_last, last_or}
use Rattle.um_text.specs.Lines.{lines}
use Rattle.um_text.specs.Words.{words, is_gap}
use Rattle.um_decktext.specs.Words.{Words, first_word}
use Rattle.um_decktext.specs.declared.section.Section.{Section}
use Rattle.um_decktext.specs.Sections.{section_called, is_section}

-- A line is skipped where it has no word or begins with `*`. One that begins with a blank or a tab is a data line;
-- all others are headings of sections.
pub data Line : Type 0 where
  Skipped : Line
  Heading : Words → Line
  Data : Words → Line

abbrev pub is_skipped : List ℕ → Bool
is_skipped bytes = nat_eq (length (words bytes)) 0 || nat_eq (slice_index bytes 0) 42

unfoldable pub line_of : List ℕ → Line
line_of bytes =
    if is_skipped bytes then Skipped
    else if is_gap (slice_index bytes 0) then Data (words bytes)
    else Heading (words bytes)

unfoldable pub deck_lines : List ℕ → List Line
deck_lines bytes = map line_of (lines bytes)

-- ---- sections

abbrev pub is_heading : Line → Bool
is_heading (Heading ws) = true
is_heading other = false

-- the section that a line is the heading of
abbrev pub heading_of : Line → Option Section
heading_of (Heading ws) = section_called (first_word ws)
heading_of other = None

abbrev pub data_words : Line → Option Words
data_words (Data ws) = Some ws
data_words other = None

-- the section in which a line stands that these lines come before
unfoldable pub section_now : List Line → Option Section
section_now before = last_or None (filter_map heading_of before)

-- the data lines of that section so far
unfoldable pub data_now : List Line → List Words
data_now before = filter_map data_words (after_last is_heading before)

-- this section's heading is among the lines
abbrev pub has_section : Section → List Line → Bool
has_section s before = list_any (λ line. is_section s (heading_of line)) before
