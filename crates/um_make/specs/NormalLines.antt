-- The normal text of a deck: its lines, each a heading or data, as words.
use Rattle.std.specs.Prelude.{ℕ, ℤ, pos, neg_ℤ, ◌-ℤ◌, unsigned_abs, int_le, Bool, ◌&&◌, nat_eq, List, [], ◌∷◌, ◌++◌, map, Option, Some, None, slice_index_or, codes, if◌then◌else◌}
use Rattle.std.specs.List.{flat_map}
use Rattle.um_model.specs.Values.{DeckValue, ColumnValue, SetValue}
use Rattle.um_model.specs.declared.deck.Row.{Row}
use Rattle.um_model.specs.declared.deck.Entry.{Entry}
use Rattle.um_model.specs.declared.deck.Kind.{Kind}
use Rattle.um_model.specs.declared.deck.Kind.TheVariants.{Integer, Semi}
use Rattle.um_model.specs.declared.deck.Arc.{Arc}
use Rattle.um_model.specs.declared.deck.Member.{Member}
use Rattle.um_model.specs.declared.deck.SetKind.{SetKind}
use Rattle.um_model.specs.declared.deck.SetKind.TheVariants.{S1, S2}
use Rattle.um_statements.specs.declared.parts.RowKind.{RowKind}
use Rattle.um_statements.specs.declared.parts.RowKind.TheVariants.{N, L, G, E}
use Rattle.um_statements.specs.declared.parts.BoundKind.{BoundKind}
use Rattle.um_statements.specs.declared.parts.BoundKind.TheVariants.{Up, Lo, Fx, Fr, Mi, Pl, Bv, Li, Ui, Sc}
use Rattle.um_statements.specs.Statements.{Name}
use Rattle.um_text.specs.Texts.{lines_text}
use Rattle.um_decktext.specs.Words.{Words}
use Rattle.um_decktext.specs.DeckLines.{Line, Skipped, Heading, Data}
use Rattle.um_make.specs.Numerals.{numeral}

-- ---- words

-- the number is 0
abbrev pub is_zero_number : ℤ → Bool
is_zero_number z = nat_eq (unsigned_abs z) 0

-- both are the same number
abbrev pub is_same : ℤ → ℤ → Bool
is_same a b = int_le a b && int_le b a

-- a number of the objective, as the text has it
abbrev pub in_sense : Bool → ℤ → ℤ
in_sense maximise z = if maximise then neg_ℤ z else z

-- a number with the name of its row and its scale
abbrev pub Number : Type 0
Number = Name × ℕ × ℤ

-- a line with one number, behind the name of a column or of a set of pairs
abbrev pub number_words : Name → Number → Words
number_words first n = first ∷ n.0 ∷ numeral n.1 n.2 ∷ []

-- 0 has no line
abbrev pub unless_zero : Number → List Number
unless_zero n = if is_zero_number n.2 then [] else n ∷ []

-- a heading with these data lines, left out where there are none
abbrev pub section_of : Name → List Words → List Line
section_of title [] = []
section_of title (ws ∷ wss) = Heading (title ∷ []) ∷ map Data (ws ∷ wss)

-- ---- NAME and OBJSENSE

-- the heading with the name of the deck, left out where it is empty
abbrev pub title_words : Name → Words
title_words [] = codes "NAME" ∷ []
title_words (b ∷ bs) = codes "NAME" ∷ (b ∷ bs) ∷ []

-- the line of a deck that maximises
abbrev pub sense_lines : Bool → List Line
sense_lines maximise = if maximise then Heading (codes "OBJSENSE" ∷ codes "MAX" ∷ []) ∷ [] else []

-- ---- ROWS

-- the kind of a row with these sides: with both, different ones are a range above the low one
abbrev pub sides_kind : Option ℤ → Option ℤ → RowKind
sides_kind None high = L
sides_kind (Some low) None = G
sides_kind (Some low) (Some high) = if is_same low high then E else G

-- the word of a kind of row
abbrev pub kind_word : RowKind → List ℕ
kind_word N = codes "N"
kind_word L = codes "L"
kind_word G = codes "G"
kind_word E = codes "E"

-- the line of a row
abbrev pub row_words : Row → Words
row_words r = kind_word (sides_kind r.low r.high) ∷ r.name ∷ []

-- the lines of ROWS: first the objective
abbrev pub rows_data : DeckValue → List Words
rows_data d = (codes "N" ∷ d.objective_name ∷ []) ∷ map row_words d.rows

-- ---- COLUMNS

-- the name of the row of this index
abbrev pub row_name : List Row → ℕ → Name
row_name rows i = slice_index_or (map (λ (r : Row). r.name) rows) i []

-- the scale of the row of this index
abbrev pub scale_of_row : List Row → ℕ → ℕ
scale_of_row rows i = slice_index_or (map (λ (r : Row). r.scale) rows) i 0

-- the cost of a column
abbrev pub cost_numbers : DeckValue → ColumnValue → List Number
cost_numbers d c = unless_zero (d.objective_name, d.scale, in_sense d.maximise c.cost)

-- an entry of a column
abbrev pub entry_number : List Row → Entry → Number
entry_number rows e = (row_name rows e.row, scale_of_row rows e.row, e.value)

-- these numbers, or this one where there are none
abbrev pub or_one : List Number → Number → List Number
or_one [] n = n ∷ []
or_one (m ∷ more) n = m ∷ more

-- the numbers of a column; one without any has a line with a cost of 0
abbrev pub numbers_of : DeckValue → ColumnValue → List Number
numbers_of d c = or_one (cost_numbers d c ++ map (entry_number d.rows) c.entries) (d.objective_name, 0, pos 0)

-- a marker
abbrev pub marker_words : List ℕ → Words
marker_words end = codes "M" ∷ codes "'MARKER'" ∷ end ∷ []

-- an integer column stands between two markers
abbrev pub marked : Kind → List Words → List Words
marked Integer wss = marker_words (codes "'INTORG'") ∷ wss ++ marker_words (codes "'INTEND'") ∷ []
marked other wss = wss

-- the lines of a column
abbrev pub column_data : DeckValue → ColumnValue → List Words
column_data d c = marked c.kind (map (number_words c.name) (numbers_of d c))

-- the lines of all columns
abbrev pub columns_data : DeckValue → List Words
columns_data d = flat_map (column_data d) d.columns

-- ---- RHS and RANGES

-- the low side where there is one, else the high one
abbrev pub first_side : Option ℤ → Option ℤ → ℤ
first_side (Some low) high = low
first_side None (Some high) = high
first_side None None = pos 0

-- the right-hand side of a row
abbrev pub side_numbers : Row → List Number
side_numbers r = unless_zero (r.name, r.scale, first_side r.low r.high)

-- the right-hand side of the objective is the negative of the constant
abbrev pub constant_numbers : DeckValue → List Number
constant_numbers d = unless_zero (d.objective_name, d.scale, neg_ℤ (in_sense d.maximise d.constant))

-- all right-hand sides, that of the objective last
abbrev pub sides_of : DeckValue → List Number
sides_of d = flat_map side_numbers d.rows ++ constant_numbers d

-- the lines of RHS
abbrev pub sides_data : DeckValue → List Words
sides_data d = map (number_words (codes "RHS")) (sides_of d)

-- how far apart two different sides are
abbrev pub width : Option ℤ → Option ℤ → ℤ
width (Some low) (Some high) = high -ℤ low
width low high = pos 0

-- the range of a row with two different sides
abbrev pub range_numbers : Row → List Number
range_numbers r = unless_zero (r.name, r.scale, width r.low r.high)

-- all ranges
abbrev pub ranges_of : DeckValue → List Number
ranges_of d = flat_map range_numbers d.rows

-- the lines of RANGES
abbrev pub ranges_data : DeckValue → List Words
ranges_data d = map (number_words (codes "RNG")) (ranges_of d)

-- ---- BOUNDS

-- the word of a kind of bound
abbrev pub bound_name : BoundKind → List ℕ
bound_name Up = codes "UP"
bound_name Lo = codes "LO"
bound_name Fx = codes "FX"
bound_name Fr = codes "FR"
bound_name Mi = codes "MI"
bound_name Pl = codes "PL"
bound_name Bv = codes "BV"
bound_name Li = codes "LI"
bound_name Ui = codes "UI"
bound_name Sc = codes "SC"

-- a bound with the name of its column; a value is in thousandths
abbrev pub BoundPart : Type 0
BoundPart = Name × BoundKind × Option ℤ

-- the words of a bound
abbrev pub bound_line_of : BoundKind → Name → Option ℤ → Words
bound_line_of kind column None = bound_name kind ∷ codes "BND" ∷ column ∷ []
bound_line_of kind column (Some z) = bound_name kind ∷ codes "BND" ∷ column ∷ numeral 3 z ∷ []

-- the line of a bound
abbrev pub bound_words : BoundPart → Words
bound_words b = bound_line_of b.1 b.0 b.2

-- the bounds of a column that isn't semicontinuous: none for 0 and infinity
abbrev pub ends_bounds : Name → Option ℤ → Option ℤ → List BoundPart
ends_bounds column None None = (column, Fr, None) ∷ []
ends_bounds column None (Some high) = (column, Mi, None) ∷ (column, Up, Some high) ∷ []
ends_bounds column (Some low) None = if is_zero_number low then [] else (column, Lo, Some low) ∷ []
ends_bounds column (Some low) (Some high) = (column, Lo, Some low) ∷ (column, Up, Some high) ∷ []

-- the bounds of a semicontinuous column: first its threshold; it always has a high end
abbrev pub semi_bounds : Name → (threshold : ℤ) → Option ℤ → List BoundPart
semi_bounds column threshold None = []
semi_bounds column threshold (Some high) = (column, Lo, Some threshold) ∷ (column, Sc, Some high) ∷ []

-- the bounds of a column of this kind
abbrev pub kind_bounds : Name → Kind → Option ℤ → Option ℤ → List BoundPart
kind_bounds column (Semi threshold) low high = semi_bounds column threshold high
kind_bounds column other low high = ends_bounds column low high

-- the bounds of a column by its kind and ends
abbrev pub column_bounds : ColumnValue → List BoundPart
column_bounds c = kind_bounds c.name c.kind c.low c.high

-- the lines of BOUNDS
abbrev pub bounds_data : DeckValue → List Words
bounds_data d = map bound_words (flat_map column_bounds d.columns)

-- ---- SOS

-- the word of a kind of set
abbrev pub set_word : SetKind → List ℕ
set_word S1 = codes "S1"
set_word S2 = codes "S2"

-- the name of the column of this index
abbrev pub column_name : List ColumnValue → ℕ → Name
column_name columns j = slice_index_or (map (λ (c : ColumnValue). c.name) columns) j []

-- the line of a member; its weight is in millionths
abbrev pub member_words : List ColumnValue → Member → Words
member_words columns m = column_name columns m.column ∷ numeral 6 m.weight ∷ []

-- the lines of a set: its kind and name, then its members by weight, as a deck keeps them
abbrev pub set_data : List ColumnValue → SetValue → List Words
set_data columns s = (set_word s.kind ∷ s.name ∷ []) ∷ map (member_words columns) s.members

-- the lines of SOS
abbrev pub sets_data : DeckValue → List Words
sets_data d = flat_map (set_data d.columns) d.sets

-- ---- ARCS

-- the number of an arc: one of the objective has the deck's sense
abbrev pub arc_number : DeckValue → Option ℕ → ℤ → Number
arc_number d None z = (d.objective_name, d.scale, in_sense d.maximise z)
arc_number d (Some row) z = (row_name d.rows row, scale_of_row d.rows row, z)

-- the line of an arc of this column, with its number
abbrev pub arc_line_of : Name → Number → Words
arc_line_of column n = codes "Q" ∷ n.0 ∷ column ∷ numeral n.1 n.2 ∷ []

-- the line of an arc
abbrev pub arc_words : DeckValue → Arc → Words
arc_words d a = arc_line_of (column_name d.columns a.column) (arc_number d a.row a.value)

-- the lines of ARCS
abbrev pub arcs_data : DeckValue → List Words
arcs_data d = map (arc_words d) d.arcs

-- ---- all

-- the lines up to those of ROWS
abbrev pub front_lines : DeckValue → List Line
front_lines d = Heading (title_words d.name) ∷ sense_lines d.maximise ++ section_of (codes "ROWS") (rows_data d)

-- the lines of COLUMNS
abbrev pub columns_lines : DeckValue → List Line
columns_lines d = Heading (codes "COLUMNS" ∷ []) ∷ map Data (columns_data d)

-- the lines behind COLUMNS
abbrev pub back_lines : DeckValue → List Line
back_lines d =
    section_of (codes "RHS") (sides_data d)
    ++ (section_of (codes "RANGES") (ranges_data d)
    ++ (section_of (codes "BOUNDS") (bounds_data d)
    ++ (section_of (codes "SOS") (sets_data d)
    ++ (section_of (codes "ARCS") (arcs_data d)
    ++ Heading (codes "ENDATA" ∷ []) ∷ []))))

-- the lines of a deck
unfoldable pub normal_lines : DeckValue → List Line
normal_lines d = front_lines d ++ (columns_lines d ++ back_lines d)

-- the words of a line one blank apart; a data line begins with a blank
abbrev pub line_words : Line → Words
line_words Skipped = []
line_words (Heading ws) = ws
line_words (Data ws) = [] ∷ ws

-- the bytes of these lines
unfoldable pub normal_text : DeckValue → List ℕ
normal_text d = lines_text (map line_words (normal_lines d))
