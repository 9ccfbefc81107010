-- The place behind a line: one line more changes a few parts of it.
use Rattle.std.specs.Prelude.{◌≡◌, ◌<◌, true, false, is_some, length, ◌||◌, if◌then◌else◌, Option, Some, None}
use Rattle.std.specs.Option.{option_or}
use Rattle.um_statements.specs.Said.{Said}
use Rattle.um_decktext.specs.declared.section.Section.{Section}
use Rattle.um_decktext.specs.declared.section.Section.TheVariants as section
use Rattle.um_decktext.specs.Sections.{section_called, is_section}
use Rattle.um_decktext.specs.Words.{Words, first_word}
use Rattle.um_decktext.specs.SetLines.{weights_told}
use Rattle.um_decktext.specs.DeckLines.{Line, Skipped, Heading, Data}
use Rattle.um_decktext.specs.LineWords.{is_objective_line, is_marker, opens, set_of_pairs, set_of_bound}
use Rattle.um_decktext.specs.Places.{Place, column_of}

-- behind a line of ROWS
abbrev pub behind_row : Words → Place → Place
behind_row ws p = record p { has_objective = p.has_objective || is_objective_line ws }

-- behind a line of COLUMNS
abbrev pub behind_column : Words → Place → Place
behind_column ws p = record p { in_block = if is_marker ws then opens ws else p.in_block; column = column_of ws }

-- behind a line of RHS or RANGES, and of BOUNDS: the first line's set stays
abbrev pub behind_pairs : Words → Place → Place
behind_pairs ws p = record p { used = option_or p.used (Some (set_of_pairs ws)) }

abbrev pub behind_bound : Words → Place → Place
behind_bound ws p = record p { used = option_or p.used (Some (set_of_bound ws)) }

-- behind a line of SOS: one that begins a set says whether its members have weights
abbrev pub behind_set_line : Words → Place → Place
behind_set_line ws p = record p { weights = option_or (weights_told ws) p.weights }

-- behind a data line in this section
abbrev pub behind_data : Option Section → Words → Place → Place
behind_data (Some section.Rows) ws p = behind_row ws p
behind_data (Some section.Columns) ws p = behind_column ws p
behind_data (Some section.Rhs) ws p = behind_pairs ws p
behind_data (Some section.Ranges) ws p = behind_pairs ws p
behind_data (Some section.Bounds) ws p = behind_bound ws p
behind_data (Some section.Sos) ws p = behind_set_line ws p
behind_data other ws p = p

-- behind a heading of this section
abbrev pub behind_section : Option Section → Place → Place
behind_section found p = record {
  section = option_or found p.section;
  has_rows = p.has_rows || is_section section.Rows found;
  has_columns = p.has_columns || is_section section.Columns found;
  has_objective = false;
  in_block = false;
  column = None;
  used = None;
  weights = None;
}

abbrev pub behind_heading : Words → Place → Place
behind_heading ws p = behind_section (section_called (first_word ws)) p

abbrev pub behind : Line → Place → Place
behind Skipped p = p
behind (Heading ws) p = behind_heading ws p
behind (Data ws) p = behind_data p.section ws p

-- where a line may go on with a column, a maker has one
abbrev pub HasItsColumn : Place → Said → Type 0
HasItsColumn p said = is_some p.column ≡ true → 0 < length said.columns
