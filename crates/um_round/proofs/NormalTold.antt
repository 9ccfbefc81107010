-- What the lines of a deck's normal text say, line by line.
use Rattle.std.specs.Prelude.{Bool, true, false, List, [], ◌∷◌, ◌++◌, map, Some, None, option_map, if◌then◌else◌}
use Rattle.std.specs.List.{flat_map}
use Rattle.um_model.specs.Values.{DeckValue, ColumnValue, SetValue}
use Rattle.um_model.specs.declared.deck.Row.{Row}
use Rattle.um_model.specs.declared.deck.Arc.{Arc}
use Rattle.um_model.specs.declared.deck.Member.{Member}
use Rattle.um_model.specs.declared.deck.Kind.{Kind}
use Rattle.um_model.specs.declared.deck.Kind.TheVariants.{Integer}
use Rattle.um_statements.specs.declared.parts.RowKind.TheVariants.{N}
use Rattle.um_statements.specs.Statements.{Name, Statement, Title, Sense, RowTold, Column, EntryTold, Side, Range, Bound, Set, MemberTold, ArcTold}
use Rattle.um_round.specs.Numerals.{written}
use Rattle.um_make.specs.NormalLines.{Number, BoundPart, sides_kind, numbers_of, sides_of, ranges_of, column_bounds, column_name, arc_number}

-- what the lines of a section say, behind its heading; nothing where it has none
abbrev pub section_told : List (List Statement) → List (List Statement)
section_told [] = []
section_told (told ∷ more) = [] ∷ told ∷ more

-- the line of a deck that maximises
abbrev pub sense_told : Bool → List (List Statement)
sense_told maximise = if maximise then (Sense true ∷ []) ∷ [] else []

-- the line of a row
abbrev pub row_told : Row → List Statement
row_told r = RowTold (sides_kind r.low r.high) r.name ∷ []

-- the lines of ROWS
abbrev pub rows_told : DeckValue → List (List Statement)
rows_told d = (RowTold N d.objective_name ∷ []) ∷ map row_told d.rows

-- a line with a number of a column, behind the first
abbrev pub entry_told : Number → List Statement
entry_told n = EntryTold n.0 (written n.1 n.2) ∷ []

-- a column's first line begins it
abbrev pub numbers_told : Name → Bool → List Number → List (List Statement)
numbers_told column integer [] = []
numbers_told column integer (n ∷ ns) = (Column column integer ∷ entry_told n) ∷ map entry_told ns

-- the lines of a column: the markers of an integer one say nothing
abbrev pub column_told_as : Kind → Name → List Number → List (List Statement)
column_told_as Integer column ns = [] ∷ (numbers_told column true ns ++ [] ∷ [])
column_told_as other column ns = numbers_told column false ns

-- the lines of a column of the deck
abbrev pub column_told : DeckValue → ColumnValue → List (List Statement)
column_told d c = column_told_as c.kind c.name (numbers_of d c)

-- the lines of COLUMNS
abbrev pub columns_told : DeckValue → List (List Statement)
columns_told d = flat_map (column_told d) d.columns

-- a line of RHS
abbrev pub side_told : Number → List Statement
side_told n = Side n.0 (written n.1 n.2) ∷ []

-- a line of RANGES
abbrev pub range_told : Number → List Statement
range_told n = Range n.0 (written n.1 n.2) ∷ []

-- a line of BOUNDS
abbrev pub bound_told : BoundPart → List Statement
bound_told b = Bound b.1 b.0 (option_map (written 3) b.2) ∷ []

-- a line of a member
abbrev pub member_told : List ColumnValue → Member → List Statement
member_told columns m = MemberTold (column_name columns m.column) (Some (written 6 m.weight)) ∷ []

-- the lines of a set
abbrev pub set_told : List ColumnValue → SetValue → List (List Statement)
set_told columns s = (Set s.kind s.name None ∷ []) ∷ map (member_told columns) s.members

-- the lines of SOS
abbrev pub sets_told : DeckValue → List (List Statement)
sets_told d = flat_map (set_told d.columns) d.sets

-- a line with the number of an arc of this column
abbrev pub arc_told_of : Name → Number → List Statement
arc_told_of column n = ArcTold n.0 column (written n.1 n.2) ∷ []

-- a line of an arc
abbrev pub arc_told : DeckValue → Arc → List Statement
arc_told d a = arc_told_of (column_name d.columns a.column) (arc_number d a.row a.value)

-- the lines up to those of ROWS
abbrev pub front_told : DeckValue → List (List Statement)
front_told d = (Title d.name ∷ []) ∷ (sense_told d.maximise ++ ([] ∷ rows_told d))

-- the lines behind those of COLUMNS
abbrev pub back_told : DeckValue → List (List Statement)
back_told d =
    section_told (map side_told (sides_of d))
    ++ (section_told (map range_told (ranges_of d))
    ++ (section_told (map bound_told (flat_map column_bounds d.columns))
    ++ (section_told (sets_told d)
    ++ (section_told (map (arc_told d) d.arcs)
    ++ [] ∷ []))))

-- the statements of each line
abbrev pub normal_told : DeckValue → List (List Statement)
normal_told d = front_told d ++ ([] ∷ columns_told d ++ back_told d)

-- all statements
abbrev pub normal_statements : DeckValue → List Statement
normal_statements d = flat_map (λ told. told) (normal_told d)
