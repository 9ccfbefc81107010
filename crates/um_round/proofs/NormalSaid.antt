-- What a maker knows that was told a deck's normal text, section by section.
use Rattle.std.specs.Prelude.{◌≡◌, All, ℕ, ℤ, neg_ℤ, Bool, true, false, List, [], ◌∷◌, map, Option, Some, None, option_map, if◌then◌else◌}
use Rattle.std.specs.List.{flat_map}
use Rattle.um_num.specs.declared.decimal.Decimal.{Decimal}
use Rattle.um_model.specs.Values.{DeckValue, ColumnValue, SetValue}
use Rattle.um_model.specs.declared.deck.Row.{Row}
use Rattle.um_model.specs.declared.deck.Arc.{Arc}
use Rattle.um_model.specs.declared.deck.Member.{Member}
use Rattle.um_model.specs.declared.deck.Kind.{Kind}
use Rattle.um_model.specs.declared.deck.Kind.TheVariants.{Integer}
use Rattle.um_statements.specs.declared.parts.RowKind.{RowKind}
use Rattle.um_statements.specs.declared.parts.RowKind.TheVariants.{N}
use Rattle.um_statements.specs.declared.parts.EntryPart.{EntryPart}
use Rattle.um_statements.specs.declared.parts.MemberPart.{MemberPart}
use Rattle.um_statements.specs.declared.parts.ArcPart.{ArcPart}
use Rattle.um_statements.specs.declared.parts.BoundKind.{BoundKind}
use Rattle.um_statements.specs.Statements.{Name, Statement}
use Rattle.um_statements.specs.Said.{Said, RowSaid, ColumnSaid, SetSaid, ends_of, row_place}
use Rattle.um_statements.specs.CallRules.{faults_in, with_all, bare_ends, option_list}
use Rattle.um_statements.specs.Made.{low_end, high_end, kind_of}
use Rattle.um_statements.specs.declared.parts.Ends.{Ends}
use Rattle.um_make.specs.NormalLines.{Number, BoundPart, in_sense, is_zero_number, sides_kind, first_side, width, numbers_of, column_bounds}
use Rattle.um_round.specs.Numerals.{written}

-- ---- rows

-- a row of which only kind and name are known
abbrev pub bare : RowKind → Name → RowSaid
bare kind name = record { name = name; kind = kind; side = None; range = None }

-- a row behind ROWS
abbrev pub row_bare : Row → RowSaid
row_bare r = bare (sides_kind r.low r.high) r.name

-- the rows behind ROWS
abbrev pub bare_rows : DeckValue → List RowSaid
bare_rows d = bare N d.objective_name ∷ map row_bare d.rows

-- a number that has a line where it isn't 0
abbrev pub told_number : ℕ → ℤ → Option Decimal
told_number scale z = if is_zero_number z then None else Some (written scale z)

-- the objective behind RHS
abbrev pub objective_known : DeckValue → RowSaid
objective_known d = record { name = d.objective_name; kind = N; side = told_number d.scale (neg_ℤ (in_sense d.maximise d.constant)); range = None }

-- a row behind RHS
abbrev pub row_sided : Row → RowSaid
row_sided r = record { name = r.name; kind = sides_kind r.low r.high; side = told_number r.scale (first_side r.low r.high); range = None }

-- a row behind RANGES
abbrev pub row_known : Row → RowSaid
row_known r = record { name = r.name; kind = sides_kind r.low r.high; side = told_number r.scale (first_side r.low r.high); range = told_number r.scale (width r.low r.high) }

-- the rows behind RANGES
abbrev pub rows_known : DeckValue → List RowSaid
rows_known d = objective_known d ∷ map row_known d.rows

-- ---- columns

-- the kind of an integer column
abbrev pub is_integer : Kind → Bool
is_integer Integer = true
is_integer other = false

-- a number of a column as what the column has in a row
abbrev pub part_of : List RowSaid → Number → List EntryPart
part_of rows n = option_list (option_map (λ place. record { row = place; value = written n.1 n.2 }) (row_place rows n.0))

-- a column behind COLUMNS
abbrev pub column_bare : DeckValue → ColumnValue → ColumnSaid
column_bare d c = record { name = c.name; ends = bare_ends (is_integer c.kind); entries = flat_map (part_of (bare_rows d)) (numbers_of d c) }

-- bounds as a maker is told them
abbrev pub pairs_of : List BoundPart → List (BoundKind × Option Decimal)
pairs_of = map (λ (b : BoundPart). (b.1, option_map (written 3) b.2))

-- a column behind BOUNDS
abbrev pub column_known : DeckValue → ColumnValue → ColumnSaid
column_known d c = record { name = c.name; ends = ends_of (is_integer c.kind) (pairs_of (column_bounds c)); entries = flat_map (part_of (bare_rows d)) (numbers_of d c) }

-- ---- sets and arcs

-- a member with its own weight
abbrev pub member_known : Member → MemberPart
member_known m = record { column = m.column; weight = Some m.weight }

-- a set behind SOS
abbrev pub set_known : SetValue → SetSaid
set_known s = record { name = s.name; kind = s.kind; reference = None; members = map member_known s.members }

-- an arc of the objective, which is the row at 0
abbrev pub arc_known : DeckValue → Arc → ArcPart
arc_known d a = record { row = 0; column = a.column; value = written d.scale (in_sense d.maximise a.value) }

-- ---- what is known behind each section

-- behind ROWS
abbrev pub behind_rows : DeckValue → Said
behind_rows d = record { name = d.name; maximise = d.maximise; rows = bare_rows d; columns = []; sets = []; arcs = [] }

-- behind COLUMNS
abbrev pub behind_columns : DeckValue → Said
behind_columns d = record { name = d.name; maximise = d.maximise; rows = bare_rows d; columns = map (column_bare d) d.columns; sets = []; arcs = [] }

-- behind RHS
abbrev pub behind_sides : DeckValue → Said
behind_sides d = record { name = d.name; maximise = d.maximise; rows = objective_known d ∷ map row_sided d.rows; columns = map (column_bare d) d.columns; sets = []; arcs = [] }

-- behind RANGES
abbrev pub behind_ranges : DeckValue → Said
behind_ranges d = record { name = d.name; maximise = d.maximise; rows = rows_known d; columns = map (column_bare d) d.columns; sets = []; arcs = [] }

-- behind BOUNDS
abbrev pub behind_bounds : DeckValue → Said
behind_bounds d = record { name = d.name; maximise = d.maximise; rows = rows_known d; columns = map (column_known d) d.columns; sets = []; arcs = [] }

-- behind SOS
abbrev pub behind_sets : DeckValue → Said
behind_sets d = record { name = d.name; maximise = d.maximise; rows = rows_known d; columns = map (column_known d) d.columns; sets = map set_known d.sets; arcs = [] }

-- behind ARCS, and so in the end
abbrev pub normal_said : DeckValue → Said
normal_said d = record { name = d.name; maximise = d.maximise; rows = rows_known d; columns = map (column_known d) d.columns; sets = map set_known d.sets; arcs = map (arc_known d) d.arcs }

-- all arcs are in the objective
abbrev pub HasObjectiveArcs : DeckValue → Type 0
HasObjectiveArcs d = All (λ (a : Arc). a.row ≡ None) d.arcs

-- ---- statements

-- no statement breaks a rule, and this is known behind them
pub record Runs (old : Said) (told : List Statement) (new : Said) : Type 0 where
  pub fine : faults_in old told ≡ None
  pub knows : with_all told old ≡ new

-- ---- ends

-- these ends make this kind and these ends of a column
pub record IsEndsBack (k : Kind) (least most : Option ℤ) (ends : Ends) : Type 0 where
  pub low : low_end ends ≡ least
  pub high : high_end ends ≡ most
  pub kind : kind_of ends ≡ k
