-- What holds of all that was said of a deck without a fault.
use Rattle.std.specs.Prelude.{◌≡◌, ◌≢◌, ℕ, ◌<◌, ◌≤◌, ℤ, Bool, false, ◌&&◌, not, nat_eq, List, length, map, All, AllPairs, count_by, Option, None, Some}
use Rattle.std.specs.Option.{ForSome, option_map_or}
use Rattle.std.specs.List.{list_any, range_with_len}
use Rattle.um_num.specs.declared.decimal.Decimal.{Decimal}
use Rattle.um_text.specs.Decimals.{IsNormal}
use Rattle.um_model.specs.WellFormed.{IsWithin}
use Rattle.um_model.specs.declared.limits.TheConstants.{MOST_ROW_LINES, MOST_ROWS, MOST_COLUMNS, MOST_SETS, MOST_ARC_COLUMNS, MOST_END, MOST_WEIGHT}
use Rattle.um_statements.specs.declared.parts.End.{End}
use Rattle.um_statements.specs.declared.parts.Ends.{Ends}
use Rattle.um_statements.specs.declared.parts.EntryPart.{EntryPart}
use Rattle.um_statements.specs.declared.parts.MemberPart.{MemberPart}
use Rattle.um_statements.specs.declared.parts.ArcPart.{ArcPart}
use Rattle.um_statements.specs.Statements.{Name, Statement, Title, Sense, RowTold, Column, EntryTold, Side, Range, Bound, Set, MemberTold, ArcTold}
use Rattle.um_statements.specs.Said.{Said, RowSaid, ColumnSaid, SetSaid}
use Rattle.um_statements.specs.Scaled.{IsShortDecimal}
use Rattle.um_statements.specs.CallRules.{is_n, is_zero, objective_place}
use Rattle.um_statements.specs.Made.{finite}

-- a number that a maker may be told: in normal form, and not too wide
pub record IsNumber (v : Decimal) : Type 0 where
  pub normal : IsNormal v
  pub small : IsShortDecimal v

-- a statement whose numbers are such
abbrev pub HasNumbers : Statement → Type 0
HasNumbers (EntryTold row value) = IsNumber value
HasNumbers (Side row value) = IsNumber value
HasNumbers (Range row value) = IsNumber value
HasNumbers (Bound kind column value) = ForSome value IsNumber
HasNumbers (MemberTold column weight) = ForSome weight IsNumber
HasNumbers (ArcTold row column value) = IsNumber value
HasNumbers (Title name) = Unit {0}
HasNumbers (Sense maximise) = Unit {0}
HasNumbers (RowTold kind name) = Unit {0}
HasNumbers (Column name integer) = Unit {0}
HasNumbers (Set kind name reference) = Unit {0}

-- ---- rows

pub record IsRowSaid (r : RowSaid) : Type 0 where
  pub side_number : ForSome r.side IsNumber
  pub range_number : ForSome r.range IsNumber

pub record AreRows (rows : List RowSaid) : Type 0 where
  pub names : AllPairs (λ (a : Name) (b : Name). a ≢ b) (map (λ (r : RowSaid). r.name) rows)
  pub count : length rows ≤ MOST_ROW_LINES
  pub sided : count_by (λ (r : RowSaid). not (is_n r.kind)) rows ≤ MOST_ROWS
  pub each : All IsRowSaid rows

-- ---- columns

-- the end that a bound has set, where it is finite
abbrev pub set_end : Option End → Option ℤ
set_end found = option_map_or finite found None

-- not both semicontinuous and integer; ends of at most 10^10 thousandths
pub record IsEnds (e : Ends) : Type 0 where
  pub unmixed : (e.semi && e.integer) ≡ false
  pub low_size : ForSome (set_end e.low) (IsWithin MOST_END)
  pub high_size : ForSome (set_end e.high) (IsWithin MOST_END)
  pub threshold_size : ForSome (set_end e.threshold) (IsWithin MOST_END)

-- an entry of one of this many rows
pub record IsEntrySaid (rows : ℕ) (e : EntryPart) : Type 0 where
  pub place : e.row < rows
  pub number : IsNumber e.value

pub record IsColumnSaid (rows : ℕ) (c : ColumnSaid) : Type 0 where
  pub bounds : IsEnds c.ends
  pub parts : All (IsEntrySaid rows) c.entries
  pub distinct : AllPairs (λ (a : EntryPart) (b : EntryPart). a.row ≢ b.row) c.entries

pub record AreColumns (rows : ℕ) (columns : List ColumnSaid) : Type 0 where
  pub names : AllPairs (λ (a : Name) (b : Name). a ≢ b) (map (λ (c : ColumnSaid). c.name) columns)
  pub count : length columns ≤ MOST_COLUMNS
  pub each : All (IsColumnSaid rows) columns

-- ---- sets

pub record IsMemberSaid (columns : ℕ) (m : MemberPart) : Type 0 where
  pub place : m.column < columns
  pub size : ForSome m.weight (IsWithin MOST_WEIGHT)

pub record IsSetSaid (rows columns : ℕ) (s : SetSaid) : Type 0 where
  pub weights_row : ForSome s.reference (λ row. row < rows)
  pub parts : All (IsMemberSaid columns) s.members
  pub distinct : AllPairs (λ (a : MemberPart) (b : MemberPart). a.column ≢ b.column) s.members

pub record AreSets (rows columns : ℕ) (sets : List SetSaid) : Type 0 where
  pub names : AllPairs (λ (a : Name) (b : Name). a ≢ b) (map (λ (s : SetSaid). s.name) sets)
  pub count : length sets ≤ MOST_SETS
  pub each : All (IsSetSaid rows columns) sets

-- ---- arcs

-- an arc of the objective, whose place is known
pub record IsArcSaid (objective : Option ℕ) (columns : ℕ) (a : ArcPart) : Type 0 where
  pub row_place : objective ≡ Some a.row
  pub place : a.column < columns
  pub number : IsNumber a.value

-- an arc that is kept stands at this column
abbrev pub keeps_arc : List ArcPart → ℕ → Bool
keeps_arc arcs j = list_any (λ (a : ArcPart). nat_eq a.column j && not (is_zero a.value)) arcs

pub record AreArcs (objective : Option ℕ) (columns : ℕ) (arcs : List ArcPart) : Type 0 where
  pub each : All (IsArcSaid objective columns) arcs
  pub distinct : AllPairs (λ (a : ArcPart) (b : ArcPart). a.row ≡ b.row → a.column ≢ b.column) arcs
  pub count : count_by (keeps_arc arcs) (range_with_len 0 columns) ≤ MOST_ARC_COLUMNS

-- ---- all

pub record IsSaid (said : Said) : Type 0 where
  pub row_part : AreRows said.rows
  pub column_part : AreColumns (length said.rows) said.columns
  pub set_part : AreSets (length said.rows) (length said.columns) said.sets
  pub arc_part : AreArcs (objective_place said.rows) (length said.columns) said.arcs
