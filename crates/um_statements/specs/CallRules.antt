-- What a maker may be told: the rules of each call in their order, and what the call does.
use Rattle.std.specs.Prelude.{ℕ, Bool, true, false, ◌&&◌, ◌||◌, not, is_some, nat_le, nat_eq, unsigned_abs, if◌then◌else◌, List, [], ◌∷◌, ◌++◌, map, length, position, slice_get, count_by, Option, Some, None, option_map}
use Rattle.std.specs.List.{list_any, range_with_len}
use Rattle.std.specs.Option.{option_and_then, option_map_or, option_or}
use Rattle.std.specs.Str.{bytes_eq}
use Rattle.um_num.specs.declared.decimal.Decimal.{Decimal}
use Rattle.um_statements.specs.declared.fault.Fault.{Fault}
use Rattle.um_statements.specs.declared.fault.Fault.TheVariants.{UnknownRow, UnknownColumn, TwiceRow, TwiceColumn, TwiceEntry, TwiceSet, TwiceMember, SemiInteger, ArcRow, TooMany, TooFine, TooLarge}
use Rattle.um_statements.specs.declared.parts.RowKind.{RowKind}
use Rattle.um_statements.specs.declared.parts.RowKind.TheVariants.{N}
use Rattle.um_statements.specs.declared.parts.BoundKind.{BoundKind}
use Rattle.um_statements.specs.declared.parts.Ends.{Ends}
use Rattle.um_statements.specs.declared.parts.EntryPart.{EntryPart}
use Rattle.um_statements.specs.declared.parts.MemberPart.{MemberPart}
use Rattle.um_statements.specs.declared.parts.ArcPart.{ArcPart}
use Rattle.um_statements.specs.Statements.{Name, Statement, Title, Sense, RowTold, Column, EntryTold, Side, Range, Bound, Set, MemberTold, ArcTold}
use Rattle.um_statements.specs.Scaled.{times_ten, is_whole_at, is_within_at}
use Rattle.um_statements.specs.Said.{Said, RowSaid, ColumnSaid, SetSaid, row_place, column_place, is_endless, low_set, high_set, threshold_set, makes_fall, makes_integer, makes_semi}
use Rattle.um_model.specs.declared.limits.TheConstants.{MOST_ROW_LINES, MOST_ROWS, MOST_COLUMNS, MOST_SETS, MOST_ARC_COLUMNS, MOST_END, MOST_WEIGHT}

-- ---- rules

-- a rule: whether it is broken, and the fault that says so
abbrev pub Rule : Type 0
Rule = Bool × Fault

-- the fault of the first rule that is broken
abbrev pub first_fault : List Rule → Option Fault
first_fault [] = None
first_fault (r ∷ rules) = if r.0 then Some r.1 else first_fault rules

-- ---- words

abbrev pub is_n : RowKind → Bool
is_n N = true
is_n other = false

abbrev pub has_row : Said → Name → Bool
has_row said name = is_some (row_place said.rows name)

abbrev pub has_column : Said → Name → Bool
has_column said name = is_some (column_place said.columns name)

abbrev pub has_set : Said → Name → Bool
has_set said name = list_any (λ (s : SetSaid). bytes_eq name s.name) said.sets

-- the row or column of this name, and whether it has this
abbrev pub row_called : Said → Name → Option RowSaid
row_called said name = option_and_then (slice_get said.rows) (row_place said.rows name)

abbrev pub row_has : (RowSaid → Bool) → Said → Name → Bool
row_has test said name = option_map_or test (row_called said name) false

abbrev pub column_called : Said → Name → Option ColumnSaid
column_called said name = option_and_then (slice_get said.columns) (column_place said.columns name)

abbrev pub column_has : (ColumnSaid → Bool) → Said → Name → Bool
column_has test said name = option_map_or test (column_called said name) false

abbrev pub is_at : Option ℕ → ℕ → Bool
is_at None k = false
is_at (Some j) k = nat_eq j k

-- the last item has this
abbrev pub last_has : {A : Type 0} → (A → Bool) → List A → Bool
last_has test [] = false
last_has test (x ∷ []) = test x
last_has test (x ∷ (y ∷ ys)) = last_has test (y ∷ ys)

abbrev pub holds_row : ℕ → List EntryPart → Bool
holds_row place entries = list_any (λ (e : EntryPart). nat_eq e.row place) entries

-- the last column already has something in the row
abbrev pub has_entry : Said → Name → Bool
has_entry said row = option_map_or (λ place. last_has (λ (c : ColumnSaid). holds_row place c.entries) said.columns) (row_place said.rows row) false

-- the last set already has the column
abbrev pub has_member : Said → Name → Bool
has_member said column = last_has (λ (s : SetSaid). list_any (λ (m : MemberPart). is_at (column_place said.columns column) m.column) s.members) said.sets

-- 1,024 rows, or 512 that are not N
abbrev pub is_full_of_rows : Said → RowKind → Bool
is_full_of_rows said kind = nat_le MOST_ROW_LINES (length said.rows) || (not (is_n kind) && nat_le MOST_ROWS (count_by (λ (r : RowSaid). not (is_n r.kind)) said.rows))

abbrev pub is_full_of_columns : Said → Bool
is_full_of_columns said = nat_le MOST_COLUMNS (length said.columns)

-- the value of a bound is not infinite, and above 10 ^ 7 in size
abbrev pub is_large_bound : BoundKind → Decimal → Bool
is_large_bound kind v = not (is_endless kind v) && not (is_within_at MOST_END 3 v)

-- an SC on an integer column, or an LI, UI or BV on a semicontinuous one
abbrev pub mixes : BoundKind → ColumnSaid → Bool
mixes kind c = (makes_semi kind && c.ends.integer) || (makes_integer kind && c.ends.semi)

-- the first N row, which is the objective
abbrev pub objective_place : List RowSaid → Option ℕ
objective_place rows = position (λ (r : RowSaid). is_n r.kind) rows

abbrev pub is_objective : Said → Name → Bool
is_objective said row = option_map_or (is_at (objective_place said.rows)) (row_place said.rows row) false

abbrev pub is_zero : Decimal → Bool
is_zero v = nat_eq (unsigned_abs v.digits) 0

abbrev pub has_arc_at : Said → Name → Name → Bool
has_arc_at said row column = list_any (λ (a : ArcPart). is_at (row_place said.rows row) a.row && is_at (column_place said.columns column) a.column) said.arcs

-- an arc that is kept: zero arcs are not
abbrev pub has_kept_arc : Said → ℕ → Bool
has_kept_arc said j = list_any (λ (a : ArcPart). nat_eq a.column j && not (is_zero a.value)) said.arcs

abbrev pub said_arc_columns : Said → ℕ
said_arc_columns said = count_by (has_kept_arc said) (range_with_len 0 (length said.columns))

-- ---- the rules of each call, in their order

unfoldable pub rules_of : Said → Statement → List Rule
rules_of said (Title name) = []
rules_of said (Sense maximise) = []
rules_of said (RowTold kind name) =
    (has_row said name, TwiceRow)
    ∷ (is_full_of_rows said kind, TooMany) ∷ []
rules_of said (Column name integer) =
    (has_column said name, TwiceColumn)
    ∷ (is_full_of_columns said, TooMany) ∷ []
rules_of said (EntryTold row value) =
    (not (has_row said row), UnknownRow)
    ∷ (has_entry said row, TwiceEntry) ∷ []
rules_of said (Side row value) =
    (not (has_row said row), UnknownRow)
    ∷ (row_has (λ r. is_some r.side) said row, TwiceEntry) ∷ []
rules_of said (Range row value) =
    (not (has_row said row), UnknownRow)
    ∷ (row_has (λ r. is_some r.range) said row, TwiceEntry) ∷ []
rules_of said (Bound kind column value) =
    (not (has_column said column), UnknownColumn)
    ∷ (option_map_or (λ v. not (is_whole_at 3 v)) value false, TooFine)
    ∷ (option_map_or (is_large_bound kind) value false, TooLarge)
    ∷ (column_has (mixes kind) said column, SemiInteger) ∷ []
rules_of said (Set kind name reference) =
    (option_map_or (λ row. not (has_row said row)) reference false, UnknownRow)
    ∷ (has_set said name, TwiceSet)
    ∷ (nat_le MOST_SETS (length said.sets), TooMany) ∷ []
rules_of said (MemberTold column weight) =
    (not (has_column said column), UnknownColumn)
    ∷ (has_member said column, TwiceMember)
    ∷ (option_map_or (λ v. not (is_whole_at 6 v)) weight false, TooFine)
    ∷ (option_map_or (λ v. not (is_within_at MOST_WEIGHT 6 v)) weight false, TooLarge) ∷ []
rules_of said (ArcTold row column value) =
    (not (has_row said row), UnknownRow)
    ∷ (not (has_column said column), UnknownColumn)
    ∷ (not (is_objective said row), ArcRow)
    ∷ (has_arc_at said row column, TwiceEntry)
    ∷ (not (is_zero value) && option_map_or (λ j. not (has_kept_arc said j)) (column_place said.columns column) false && nat_le MOST_ARC_COLUMNS (said_arc_columns said), TooMany) ∷ []

abbrev pub fault_of : Said → Statement → Option Fault
fault_of said s = first_fault (rules_of said s)

-- ---- what a call does

-- the items of this name, changed so
abbrev pub change_rows : Name → (RowSaid → RowSaid) → List RowSaid → List RowSaid
change_rows name change rows = map (λ (r : RowSaid). if bytes_eq name r.name then change r else r) rows

abbrev pub change_columns : Name → (ColumnSaid → ColumnSaid) → List ColumnSaid → List ColumnSaid
change_columns name change columns = map (λ (c : ColumnSaid). if bytes_eq name c.name then change c else c) columns

-- the last item, changed so
abbrev pub change_last : {A : Type 0} → (A → A) → List A → List A
change_last change [] = []
change_last change (x ∷ []) = change x ∷ []
change_last change (x ∷ (y ∷ ys)) = x ∷ change_last change (y ∷ ys)

abbrev pub option_list : {A : Type 0} → Option A → List A
option_list None = []
option_list (Some x) = x ∷ []

-- the ends with one more bound
abbrev pub with_bound : BoundKind → Option Decimal → Ends → Ends
with_bound kind value ends = record {
  integer = ends.integer || makes_integer kind;
  semi = ends.semi || makes_semi kind;
  low = option_or (low_set kind value) ends.low;
  high = option_or (high_set kind value) ends.high;
  falls = ends.falls || makes_fall kind value;
  threshold = option_or (threshold_set kind value) ends.threshold;
}

-- the ends of a column of which no bound is known
abbrev pub bare_ends : Bool → Ends
bare_ends in_block = record { integer = in_block; semi = false; low = None; high = None; falls = false; threshold = None }

unfoldable pub with_statement : Statement → Said → Said
with_statement (Title name) said = record said { name = name }
with_statement (Sense maximise) said = record said { maximise = maximise }
with_statement (RowTold kind name) said = record said { rows = said.rows ++ record { name = name; kind = kind; side = None; range = None } ∷ [] }
with_statement (Column name in_block) said = record said { columns = said.columns ++ record { name = name; ends = bare_ends in_block; entries = [] } ∷ [] }
with_statement (EntryTold row value) said = record said { columns = change_last (λ (c : ColumnSaid). record c { entries = c.entries ++ option_list (option_map (λ place. record { row = place; value = value }) (row_place said.rows row)) }) said.columns }
with_statement (Side row value) said = record said { rows = change_rows row (λ r. record r { side = option_or r.side (Some value) }) said.rows }
with_statement (Range row value) said = record said { rows = change_rows row (λ r. record r { range = option_or r.range (Some value) }) said.rows }
with_statement (Bound kind column value) said = record said { columns = change_columns column (λ c. record c { ends = with_bound kind value c.ends }) said.columns }
with_statement (Set kind name reference) said = record said { sets = said.sets ++ record { name = name; kind = kind; reference = option_and_then (row_place said.rows) reference; members = [] } ∷ [] }
with_statement (MemberTold column weight) said = record said { sets = change_last (λ (s : SetSaid). record s { members = s.members ++ option_list (option_map (λ place. record { column = place; weight = option_map (λ v. times_ten v 6) weight }) (column_place said.columns column)) }) said.sets }
with_statement (ArcTold row column value) said = record said { arcs = said.arcs ++ option_list (option_and_then (λ i. option_map (λ j. record { row = i; column = j; value = value }) (column_place said.columns column)) (row_place said.rows row)) }

-- ---- several statements

-- the fault of the first of these statements that may not be told
abbrev pub faults_in : Said → List Statement → Option Fault
faults_in said [] = None
faults_in said (s ∷ told) = option_or (fault_of said s) (faults_in (with_statement s said) told)

-- what a maker knows that is told all of these
abbrev pub with_all : List Statement → Said → Said
with_all [] said = said
with_all (s ∷ told) said = with_all told (with_statement s said)
