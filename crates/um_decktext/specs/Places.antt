-- The place of a line: what the lines before it say of how it is read.
use Rattle.std.specs.Prelude.{Bool, true, false, ◌&&◌, if◌then◌else◌, List, [], ◌∷◌, Option, Some, None}
use Rattle.std.specs.List.{filter_map, list_any, last_or}
use Rattle.std.specs.Option.{option_and_then, option_map_or, option_eq}
use Rattle.std.specs.Str.{bytes_eq}
use Rattle.um_statements.specs.Statements.{Name}
use Rattle.um_decktext.specs.declared.section.Section.{Section}
use Rattle.um_decktext.specs.declared.section.Section.TheVariants as section
use Rattle.um_decktext.specs.Sections.{is_section}
use Rattle.um_decktext.specs.Words.{Words, first_word}
use Rattle.um_decktext.specs.SetLines.{weights_told}
use Rattle.um_decktext.specs.DeckLines.{Line, section_now, data_now, has_section}
use Rattle.um_decktext.specs.LineWords.{is_objective_line, is_marker, opens, set_of_pairs, set_of_bound}

-- the place of a line: what it needs of the lines before it
pub record Place : Type 0 where
  -- the section in which the line stands
  pub section : Option Section
  -- whether the headings ROWS and COLUMNS came
  pub has_rows : Bool
  pub has_columns : Bool
  -- in ROWS: whether a line of an N row came
  pub has_objective : Bool
  -- in COLUMNS: whether a block of integer columns is open, and the column that the line may go on with
  pub in_block : Bool
  pub column : Option Name
  -- in RHS, RANGES and BOUNDS, behind a first line: the set that it named, if any
  pub used : Option (Option Name)
  -- in SOS, behind a line that began a set: whether members of the last one have weights
  pub weights : Option Bool

-- a block of integer columns is open behind these lines: the last marker opens one
abbrev pub is_open : List Words → Bool
is_open lines = option_map_or opens (last_or None (filter_map (λ ws. if is_marker ws then Some ws else None) lines)) false

-- the column of a line that is no marker
abbrev pub column_of : Words → Option Name
column_of ws = if is_marker ws then None else Some (first_word ws)

-- the column of the last of these lines
abbrev pub last_column : List Words → Option Name
last_column lines = option_and_then column_of (last_or None lines)

-- the first of these lines
abbrev pub first_line : List Words → Option Words
first_line [] = None
first_line (ws ∷ lines) = Some ws

-- the set that a line in this section names, if any, where lines of the section may name one
abbrev pub set_in : Option Section → Words → Option (Option Name)
set_in (Some section.Rhs) ws = Some (set_of_pairs ws)
set_in (Some section.Ranges) ws = Some (set_of_pairs ws)
set_in (Some section.Bounds) ws = Some (set_of_bound ws)
set_in other ws = None

-- the place of the line that these lines come before
unfoldable pub place_of : List Line → Place
place_of before = record {
  section = section_now before;
  has_rows = has_section section.Rows before;
  has_columns = has_section section.Columns before;
  has_objective = is_section section.Rows (section_now before) && list_any is_objective_line (data_now before);
  in_block = is_section section.Columns (section_now before) && is_open (data_now before);
  column = if is_section section.Columns (section_now before) then last_column (data_now before) else None;
  used = option_and_then (set_in (section_now before)) (first_line (data_now before));
  weights = if is_section section.Sos (section_now before) then last_or None (filter_map weights_told (data_now before)) else None;
}

-- the set of the section's first line is used, and lines of other sets are skipped; no set counts as one
abbrev pub is_used : Place → Option Name → Bool
is_used place set = option_map_or (λ used. option_eq bytes_eq used set) place.used true
