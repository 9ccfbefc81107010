-- What each line of a deck's text says, or the rule of words that it breaks.
use Rattle.std.specs.Prelude.{ℕ, Bool, true, false, ◌&&◌, ◌||◌, not, nat_eq, nat_le, nat_lt, is_some, is_none, if◌then◌else◌, List, [], ◌∷◌, ◌++◌, drop, map, length, Option, Some, None, unwrap_or, Result, Ok, Err, codes}
use Rattle.std.specs.Option.{option_and_then, option_map_or, option_eq}
use Rattle.std.specs.Str.{bytes_eq}
use Rattle.um_num.specs.Numbers.{then_step}
use Rattle.um_num.specs.declared.decimal.Decimal.{Decimal}
use Rattle.um_statements.specs.declared.fault.Fault.{Fault}
use Rattle.um_statements.specs.declared.fault.Fault.TheVariants.{UnknownSection, SectionOrder, BadWords, UnknownKind, NoObjective, Marker}
use Rattle.um_statements.specs.declared.parts.BoundKind.{BoundKind}
use Rattle.um_statements.specs.Statements.{Name, Statement, Title, Sense, RowTold, Column, EntryTold, Side, Range, Bound}
use Rattle.um_statements.specs.CallRules.{Rule, first_fault}
use Rattle.um_statements.specs.Tells.{Says}
use Rattle.um_decktext.specs.declared.section.Section.{Section}
use Rattle.um_decktext.specs.declared.section.Section.TheVariants as section
use Rattle.um_decktext.specs.Sections.{section_called, rank, is_section}
use Rattle.um_decktext.specs.Words.{Words, first_word}
use Rattle.um_decktext.specs.Numbers.{number}
use Rattle.um_decktext.specs.SetLines.{set_says, arc_says}
use Rattle.um_decktext.specs.DeckLines.{Line, Skipped, Heading, Data}
use Rattle.um_decktext.specs.LineWords.{row_kind, sense_called, valued_bound, bare_bound, is_marker, third_word, set_of_pairs, set_of_bound}
use Rattle.um_decktext.specs.Places.{Place, is_used}

-- what a word of a known kind leads to
abbrev pub kinds : {A : Type 0} → Option A → (A → Says) → Says
kinds None says = Err UnknownKind
kinds (Some kind) says = says kind

-- one or two rows, each with a number; all numerals are read before a rule of a statement is looked at
abbrev pub pairs : Words → Result (List (Name × Decimal)) Fault
pairs (row ∷ word ∷ []) = then_step (number word) (λ v. Ok ((row, v) ∷ []))
pairs (row ∷ word ∷ row2 ∷ word2 ∷ []) = then_step (number word) (λ v. then_step (number word2) (λ w. Ok ((row, v) ∷ (row2, w) ∷ [])))
pairs other = Err BadWords

-- ---- OBJSENSE and ROWS

-- a line of OBJSENSE: one word
abbrev pub sense_line : Words → Says
sense_line (word ∷ []) = kinds (sense_called word) (λ maximise. Ok (Sense maximise ∷ []))
sense_line other = Err BadWords

-- a line of ROWS: a kind and a name
abbrev pub row_line : Words → Says
row_line (kind ∷ name ∷ []) = kinds (row_kind kind) (λ k. Ok (RowTold k name ∷ []))
row_line other = Err BadWords

-- ---- COLUMNS

-- a marker: its third word opens a block, or closes the open one
abbrev pub marker_line : (in_block : Bool) → Words → Says
marker_line in_block ws =
    if bytes_eq (third_word ws) (if in_block then codes "'INTEND'" else codes "'INTORG'") then Ok [] else Err Marker

-- a line of another column than the line before begins one
abbrev pub begun : Place → Name → List Statement
begun place column = if option_eq bytes_eq place.column (Some column) then [] else Column column place.in_block ∷ []

-- a line of a column's numbers: behind its name one or two rows, each with a number
abbrev pub entry_line : Place → Words → Says
entry_line place ws = then_step (pairs (drop 1 ws)) (λ ps. Ok (begun place (first_word ws) ++ map (λ p. EntryTold p.0 p.1) ps))

-- a line of COLUMNS: a marker, or numbers of a column
abbrev pub column_line : Place → Words → Says
column_line place ws = if is_marker ws then marker_line place.in_block ws else entry_line place ws

-- ---- RHS and RANGES

-- the words behind the set that a line names
abbrev pub behind_set : Words → Words
behind_set ws = if is_some (set_of_pairs ws) then drop 1 ws else ws

-- a line of RHS or RANGES: two to five words, and where its set is used, one or two rows with numbers
abbrev pub pairs_line : (Name → Decimal → Statement) → Place → Words → Says
pairs_line says place ws =
    if nat_lt (length ws) 2 || nat_lt 5 (length ws) then Err BadWords
    else if is_used place (set_of_pairs ws) then then_step (pairs (behind_set ws)) (λ ps. Ok (map (λ p. says p.0 p.1) ps))
    else Ok []

-- ---- BOUNDS

-- a bound with a value, behind the name of a set or not
abbrev pub with_value : BoundKind → Words → Says
with_value kind (word ∷ column ∷ value ∷ []) = then_step (number value) (λ v. Ok (Bound kind column (Some v) ∷ []))
with_value kind (word ∷ set ∷ column ∷ value ∷ []) = then_step (number value) (λ v. Ok (Bound kind column (Some v) ∷ []))
with_value kind other = Err BadWords

-- a bound without a value, behind the name of a set or not; a fourth word is skipped
abbrev pub without_value : BoundKind → Words → Says
without_value kind (word ∷ column ∷ []) = Ok (Bound kind column None ∷ [])
without_value kind (word ∷ set ∷ column ∷ []) = Ok (Bound kind column None ∷ [])
without_value kind (word ∷ set ∷ column ∷ value ∷ []) = Ok (Bound kind column None ∷ [])
without_value kind other = Err BadWords

-- The words of every line are counted, also in lines of other sets: a bound with a value has three or four words, and one
-- without has two to four. Its kind is looked at too.
abbrev pub bound_rules : Words → List Rule
bound_rules ws =
    let valued = valued_bound (first_word ws) in
    (nat_lt (length ws) 2 || nat_lt 4 (length ws) || (is_some valued && nat_eq (length ws) 2), BadWords)
    ∷ (is_none valued && is_none (bare_bound (first_word ws)), UnknownKind) ∷ []

-- a bound of the kind that its first word is
abbrev pub bound_says : Words → Says
bound_says ws =
    option_map_or (λ kind. with_value kind ws) (valued_bound (first_word ws))
    (option_map_or (λ kind. without_value kind ws) (bare_bound (first_word ws)) (Err UnknownKind))

-- a line of BOUNDS: the first rule of words that it breaks; else what it says where its set is used, and nothing in other sets
abbrev pub bound_line : Place → Words → Says
bound_line place ws =
    option_map_or (λ fault. Err fault) (first_fault (bound_rules ws))
    (if is_used place (set_of_bound ws) then bound_says ws else Ok [])

-- ---- data lines

-- no data lines stand before the first section and in NAME
abbrev pub data_line : Option Section → Place → Words → Says
data_line (Some section.Objsense) place ws = sense_line ws
data_line (Some section.Rows) place ws = row_line ws
data_line (Some section.Columns) place ws = column_line place ws
data_line (Some section.Rhs) place ws = pairs_line Side place ws
data_line (Some section.Ranges) place ws = pairs_line Range place ws
data_line (Some section.Bounds) place ws = bound_line place ws
data_line (Some section.Sos) place ws = set_says place.weights ws
data_line (Some section.Arcs) place ws = arc_says ws
data_line other place ws = Err SectionOrder

-- ---- headings

-- the word behind the first
abbrev pub second_word : Words → Option (List ℕ)
second_word (head ∷ word ∷ more) = Some word
second_word other = None

-- sections come in their order, and ROWS and COLUMNS before the later ones
abbrev pub is_in_order : Place → Section → Bool
is_in_order place s =
    option_map_or (λ last. nat_lt (rank last) (rank s)) place.section true
    && (nat_le (rank s) 2 || place.has_rows)
    && (nat_le (rank s) 3 || place.has_columns)

-- the rules of a heading of this section in their order
abbrev pub heading_rules : Place → Option Section → Words → List Rule
heading_rules place found ws =
    (is_none found, UnknownSection)
    ∷ (option_map_or (λ s. not (is_in_order place s)) found false, SectionOrder)
    ∷ (is_section section.Objsense found && option_map_or (λ w. is_none (sense_called w)) (second_word ws) false, UnknownKind)
    ∷ (is_section section.Columns found && not place.has_objective, NoObjective)
    ∷ (place.in_block, Marker) ∷ []

-- the name of the deck, or its sense; further words are skipped
abbrev pub heading_statements : Option Section → Words → List Statement
heading_statements found ws =
    if is_section section.Name found then Title (unwrap_or (second_word ws) []) ∷ []
    else if is_section section.Objsense found then option_map_or (λ maximise. Sense maximise ∷ []) (option_and_then sense_called (second_word ws)) []
    else []

-- a heading of this section, if of one: the first rule that it breaks, or what it says
abbrev pub heading_says : Place → Option Section → Words → Says
heading_says place found ws = option_map_or (λ fault. Err fault) (first_fault (heading_rules place found ws)) (Ok (heading_statements found ws))

-- a heading, whose first word names the section
abbrev pub heading_line : Place → Words → Says
heading_line place ws = heading_says place (section_called (first_word ws)) ws

-- ---- all lines

-- what a line says at this place
unfoldable pub line_says : Place → Line → Says
line_says place Skipped = Ok []
line_says place (Heading ws) = heading_line place ws
line_says place (Data ws) = data_line place.section place ws
