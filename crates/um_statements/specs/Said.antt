-- What was said of a deck: each part is collected from the statements that speak of it.
use Rattle.std.specs.Prelude.{ℕ, pos, neg_ℤ, ◌^◌, int_le, int_lt, Bool, true, false, ◌||◌, if◌then◌else◌, List, [], ◌∷◌, map, position, is_some, Option, Some, None, option_map, unwrap_or}
use Rattle.std.specs.List.{filter_map, list_any, find, last_or, cons_option}
use Rattle.std.specs.Option.{option_and_then}
use Rattle.std.specs.Str.{bytes_eq}
use Rattle.um_num.specs.declared.decimal.Decimal.{Decimal}
use Rattle.um_model.specs.declared.deck.SetKind.{SetKind}
use Rattle.um_statements.specs.declared.parts.RowKind.{RowKind}
use Rattle.um_statements.specs.declared.parts.BoundKind.{BoundKind}
use Rattle.um_statements.specs.declared.parts.BoundKind.TheVariants.{Up, Lo, Fx, Fr, Mi, Pl, Bv, Li, Ui, Sc}
use Rattle.um_statements.specs.declared.parts.End.{End}
use Rattle.um_statements.specs.declared.parts.End.TheVariants.{Infinite, Finite}
use Rattle.um_statements.specs.declared.parts.Ends.{Ends}
use Rattle.um_statements.specs.declared.parts.EntryPart.{EntryPart}
use Rattle.um_statements.specs.declared.parts.MemberPart.{MemberPart}
use Rattle.um_statements.specs.declared.parts.ArcPart.{ArcPart}
use Rattle.um_statements.specs.Statements.{Name, Statement, Title, Sense, RowTold, Column, EntryTold, Side, Range, Bound, Set, MemberTold, ArcTold}
use Rattle.um_statements.specs.Scaled.{times_ten}

-- ---- the record

-- a row of any kind
pub record RowSaid : Type 0 where
  pub name : Name
  pub kind : RowKind
  pub side : Option Decimal
  pub range : Option Decimal

pub record ColumnSaid : Type 0 where
  pub name : Name
  pub ends : Ends
  pub entries : List EntryPart

pub record SetSaid : Type 0 where
  pub name : Name
  pub kind : SetKind
  pub reference : Option ℕ
  pub members : List MemberPart

pub record Said : Type 0 where
  pub name : Name
  pub maximise : Bool
  pub rows : List RowSaid
  pub columns : List ColumnSaid
  pub sets : List SetSaid
  pub arcs : List ArcPart

abbrev pub nothing_said : Said
nothing_said = record { name = []; maximise = false; rows = []; columns = []; sets = []; arcs = [] }

-- ---- places of names

abbrev pub place_in : List Name → Name → Option ℕ
place_in names name = position (bytes_eq name) names

abbrev pub row_place : List RowSaid → Name → Option ℕ
row_place rows name = place_in (map (λ (r : RowSaid). r.name) rows) name

abbrev pub column_place : List ColumnSaid → Name → Option ℕ
column_place columns name = place_in (map (λ (c : ColumnSaid). c.name) columns) name

-- the first value that a statement gives, and the last
abbrev pub first_of : {A : Type 0} → (Statement → Option A) → List Statement → Option A
first_of gives told = find (λ a. true) (filter_map gives told)

abbrev pub last_of : {A : Type 0} → (Statement → Option A) → List Statement → Option A
last_of gives told = last_or None (filter_map gives told)

-- what the items up to the next head give, and each head with what the items up to the next head give
abbrev pub items_in : {X H I : Type 0} → (X → Option H) → (X → Option I) → List X → List I
items_in head item [] = []
items_in head item (x ∷ rest) = if is_some (head x) then [] else cons_option (item x) (items_in head item rest)

abbrev pub grouped : {X H I : Type 0} → (X → Option H) → (X → Option I) → List X → List (H × List I)
grouped head item [] = []
grouped head item (x ∷ rest) = cons_option (option_map (λ h. (h, items_in head item rest)) (head x)) (grouped head item rest)

-- ---- rows

abbrev pub side_of : Name → Statement → Option Decimal
side_of name (Side row value) = if bytes_eq row name then Some value else None
side_of name other = None

abbrev pub range_of : Name → Statement → Option Decimal
range_of name (Range row value) = if bytes_eq row name then Some value else None
range_of name other = None

abbrev pub row_of : List Statement → Statement → Option RowSaid
row_of told (RowTold kind name) = Some (record { name = name; kind = kind; side = first_of (side_of name) told; range = first_of (range_of name) told })
row_of told other = None

-- ---- what a bound sets

-- a bound's value as an end: from 10 ^ 20 on a high end is infinite, from -10 ^ 20 down a low one
abbrev pub is_endless : BoundKind → Decimal → Bool
is_endless Up v = int_le (pos (10 ^ 23)) (times_ten v 3)
is_endless Ui v = int_le (pos (10 ^ 23)) (times_ten v 3)
is_endless Lo v = int_le (times_ten v 3) (neg_ℤ (pos (10 ^ 23)))
is_endless Li v = int_le (times_ten v 3) (neg_ℤ (pos (10 ^ 23)))
is_endless other v = false

abbrev pub end_of : BoundKind → Option Decimal → End
end_of kind None = Infinite
end_of kind (Some v) = if is_endless kind v then Infinite else Finite (times_ten v 3)

-- the low end that a bound sets, if it sets one
abbrev pub low_set : BoundKind → Option Decimal → Option End
low_set Lo v = Some (end_of Lo v)
low_set Li v = Some (end_of Li v)
low_set Fx v = Some (end_of Fx v)
low_set Fr v = Some Infinite
low_set Mi v = Some Infinite
low_set Bv v = Some (Finite (pos 0))
low_set other v = None

abbrev pub high_set : BoundKind → Option Decimal → Option End
high_set Up v = Some (end_of Up v)
high_set Ui v = Some (end_of Ui v)
high_set Fx v = Some (end_of Fx v)
high_set Sc v = Some (end_of Sc v)
high_set Fr v = Some Infinite
high_set Pl v = Some Infinite
high_set Bv v = Some (Finite (pos 1000))
high_set other v = None

-- the threshold of a semicontinuous column is that of its last LO
abbrev pub threshold_set : BoundKind → Option Decimal → Option End
threshold_set Lo v = Some (end_of Lo v)
threshold_set other v = None

-- an UP or UI below 0, which makes the low end infinite where no bound sets it
abbrev pub is_below_zero : End → Bool
is_below_zero Infinite = false
is_below_zero (Finite z) = int_lt z (pos 0)

abbrev pub makes_fall : BoundKind → Option Decimal → Bool
makes_fall Up v = is_below_zero (end_of Up v)
makes_fall Ui v = is_below_zero (end_of Ui v)
makes_fall other v = false

abbrev pub makes_integer : BoundKind → Bool
makes_integer Li = true
makes_integer Ui = true
makes_integer Bv = true
makes_integer other = false

abbrev pub makes_semi : BoundKind → Bool
makes_semi Sc = true
makes_semi other = false

-- the bounds on a column, in order
abbrev pub bound_on : Name → Statement → Option (BoundKind × Option Decimal)
bound_on name (Bound kind column value) = if bytes_eq column name then Some (kind, value) else None
bound_on name other = None

-- each end is that of the last bound that set it
abbrev pub ends_of : Bool → List (BoundKind × Option Decimal) → Ends
ends_of in_block bounds = record {
  integer = in_block || list_any (λ b. makes_integer b.0) bounds;
  semi = list_any (λ b. makes_semi b.0) bounds;
  low = last_or None (filter_map (λ b. low_set b.0 b.1) bounds);
  high = last_or None (filter_map (λ b. high_set b.0 b.1) bounds);
  falls = list_any (λ b. makes_fall b.0 b.1) bounds;
  threshold = last_or None (filter_map (λ b. threshold_set b.0 b.1) bounds);
}

-- ---- names

abbrev pub named_row : Statement → Option Name
named_row (RowTold kind name) = Some name
named_row other = None

abbrev pub named_column : Statement → Option Name
named_column (Column name in_block) = Some name
named_column other = None

-- the names of the rows, and of the columns, in order
abbrev pub rows_told : List Statement → List Name
rows_told told = filter_map named_row told

abbrev pub columns_told : List Statement → List Name
columns_told told = filter_map named_column told

-- ---- columns

-- a column's name, and whether it begins inside a block of integer columns
abbrev pub column_head : Statement → Option (Name × Bool)
column_head (Column name in_block) = Some (name, in_block)
column_head other = None

abbrev pub entry_of : List Name → Statement → Option EntryPart
entry_of rows (EntryTold row value) = option_map (λ place. record { row = place; value = value }) (place_in rows row)
entry_of rows other = None

-- a column with all bounds on it
abbrev pub column_of : List Statement → (Name × Bool) × List EntryPart → ColumnSaid
column_of told p = record { name = p.0.0; ends = ends_of p.0.1 (filter_map (bound_on p.0.0) told); entries = p.1 }

-- the columns, each with the entries up to the next
abbrev pub columns_of : List Name → List Statement → List ColumnSaid
columns_of rows told = map (column_of told) (grouped column_head (entry_of rows) told)

-- ---- sets and arcs

abbrev pub set_head : List Name → Statement → Option (Name × SetKind × Option ℕ)
set_head rows (Set kind name reference) = Some (name, kind, option_and_then (place_in rows) reference)
set_head rows other = None

abbrev pub member_of : List Name → Statement → Option MemberPart
member_of columns (MemberTold column weight) = option_map (λ place. record { column = place; weight = option_map (λ v. times_ten v 6) weight }) (place_in columns column)
member_of columns other = None

abbrev pub set_of : (Name × SetKind × Option ℕ) × List MemberPart → SetSaid
set_of p = record { name = p.0.0; kind = p.0.1; reference = p.0.2; members = p.1 }

-- the sets, each with the members up to the next
abbrev pub sets_of : List Name → List Name → List Statement → List SetSaid
sets_of rows columns told = map set_of (grouped (set_head rows) (member_of columns) told)

abbrev pub arc_of : List Name → List Name → Statement → Option ArcPart
arc_of rows columns (ArcTold row column value) = option_and_then (λ i. option_map (λ j. record { row = i; column = j; value = value }) (place_in columns column)) (place_in rows row)
arc_of rows columns other = None

-- ---- all

abbrev pub title_of : Statement → Option Name
title_of (Title name) = Some name
title_of other = None

abbrev pub sense_of : Statement → Option Bool
sense_of (Sense maximise) = Some maximise
sense_of other = None

-- the deck as these statements have it; the last title and the last sense count
unfoldable pub collected : List Statement → Said
collected told = record {
  name = unwrap_or (last_of title_of told) [];
  maximise = unwrap_or (last_of sense_of told) false;
  rows = filter_map (row_of told) told;
  columns = columns_of (rows_told told) told;
  sets = sets_of (rows_told told) (columns_told told) told;
  arcs = filter_map (arc_of (rows_told told) (columns_told told)) told;
}
