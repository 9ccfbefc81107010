-- One statement more, in each part of what is collected.
use Rattle.std.proofs.Common.{◌≡◌, ℕ, Bool, true, false, List, [], ◌∷◌, ◌++◌, map, Option, None, Some, option_map, option_and_then, refl, ap, ◌∙◌, append-nil, if◌then◌else◌}
use Rattle.std.specs.List.{filter_map, list_all, find}
use Rattle.std.specs.Option.{option_or}
use Rattle.std.specs.Str.{bytes_eq}
use Rattle.std.proofs.lemmas.List.{map-append}
use Rattle.std.proofs.lemmas.List.Elements.{filter_map-append}
use Rattle.um_num.specs.declared.decimal.Decimal.{Decimal}
use Rattle.um_statements.specs.declared.parts.BoundKind.{BoundKind}
use Rattle.um_statements.specs.declared.parts.RowKind.{RowKind}
use Rattle.um_statements.specs.declared.parts.EntryPart.{EntryPart}
use Rattle.um_statements.specs.declared.parts.MemberPart.{MemberPart}
use Rattle.um_model.specs.declared.deck.SetKind.{SetKind}
use Rattle.um_statements.specs.Statements.{Name, Statement, RowTold, Column, EntryTold, Side, Range, Bound, Set, MemberTold}
use Rattle.um_statements.specs.Scaled.{times_ten}
use Rattle.um_statements.specs.Said.{RowSaid, ColumnSaid, SetSaid, place_in, grouped, first_of, side_of, range_of, row_of, bound_on, ends_of, rows_told, columns_told, column_head, column_of, columns_of, entry_of, set_head, set_of, sets_of, member_of, arc_of}
use Rattle.um_statements.specs.CallRules.{change_rows, change_columns, change_last, option_list, with_bound, bare_ends}
use Rattle.um_statements.proofs.LastBounds.{ends-law, no_bounds}
use Rattle.um_statements.proofs.Grouped.{quiet, loud, same_map, changed_map, map_in_two, map_last, head_push, item_push, grouped_quiet, grouped_same}
use Rattle.um_statements.proofs.KnownNames.{is_known, has_name, no_side, no_range, no_bound, entry_same, member_same, set_same, arc_same_row, arc_same_column}

-- ---- names

pub names_of_rows : (all told : List Statement) → map (λ (r : RowSaid). r.name) (filter_map (row_of all) told) ≡ rows_told told
names_of_rows all [] = refl
names_of_rows all (RowTold kind name ∷ told) = ap (λ (ns : List Name). name ∷ ns) (names_of_rows all told)
names_of_rows all (other ∷ told) = names_of_rows all told

pub names_of_columns : (rows : List Name) (all told : List Statement) → map (λ (c : ColumnSaid). c.name) (map (column_of all) (grouped column_head (entry_of rows) told)) ≡ columns_told told
names_of_columns rows all [] = refl
names_of_columns rows all (Column name in_block ∷ told) = ap (λ (ns : List Name). name ∷ ns) (names_of_columns rows all told)
names_of_columns rows all (other ∷ told) = names_of_columns rows all told

-- ---- rows

-- a list of rows whose statements have the same sides and ranges
same_rows : (told more : List Statement) → ((name : Name) → filter_map (side_of name) more ≡ filter_map (side_of name) told) → ((name : Name) → filter_map (range_of name) more ≡ filter_map (range_of name) told)
    → (s : Statement) → row_of more s ≡ row_of told s
same_rows told more sides ranges (RowTold kind name) = rw (sides name, ranges name) refl
same_rows told more sides ranges other = refl

pub rows_quiet : (told : List Statement) (s : Statement) → ((name : Name) → side_of name s ≡ None) → ((name : Name) → range_of name s ≡ None) → row_of (told ++ s ∷ []) s ≡ None
    → filter_map (row_of (told ++ s ∷ [])) (told ++ s ∷ []) ≡ filter_map (row_of told) told
rows_quiet told s side range none =
    quiet (row_of (told ++ s ∷ [])) told s none
    ∙ ap (λ (f : Statement → Option RowSaid). filter_map f told) (λ j t. same_rows told (told ++ s ∷ []) (λ name. quiet (side_of name) told s (side name)) (λ name. quiet (range_of name) told s (range name)) t j)

pub rows_push : (rows columns : List Name) (told : List Statement) (kind : RowKind) (name : Name) → has_name rows name ≡ false → list_all (is_known rows columns) told ≡ true
    → filter_map (row_of (told ++ RowTold kind name ∷ [])) (told ++ RowTold kind name ∷ []) ≡ filter_map (row_of told) told ++ record { name = name; kind = kind; side = None; range = None } ∷ []
rows_push rows columns told kind name new all =
    filter_map-append (row_of (told ++ RowTold kind name ∷ [])) told (RowTold kind name ∷ [])
    ∙ ap (λ (f : Statement → Option RowSaid). filter_map f told ++ filter_map f (RowTold kind name ∷ []))
    (λ j t. same_rows told (told ++ RowTold kind name ∷ []) (λ n. quiet (side_of n) told (RowTold kind name) refl) (λ n. quiet (range_of n) told (RowTold kind name) refl) t j)
    ∙ rw (no_side rows columns name new told all, no_range rows columns name new told all) refl

first_push : {A : Type 0} (xs : List A) (o : Option A) → find (λ a. true) (xs ++ option_list o) ≡ option_or (find (λ a. true) xs) o
first_push [] None = refl
first_push [] (Some x) = refl
first_push (y ∷ xs) o = refl

first_of_push : {A : Type 0} (gives : Statement → Option A) (told : List Statement) (s : Statement) → first_of gives (told ++ s ∷ []) ≡ option_or (first_of gives told) (gives s)
first_of_push gives told s = ap (find (λ a. true)) (loud gives told s) ∙ first_push (filter_map gives told) (gives s)

or_none : {A : Type 0} (o : Option A) → option_or o None ≡ o
or_none None = refl
or_none (Some x) = refl

abbrev row_with : Name → RowKind → Option Decimal → Option Decimal → RowSaid
row_with name kind side range = record { name = name; kind = kind; side = side; range = range }

side_put : (told : List Statement) (row : Name) (value : Decimal) (s : Statement)
    → row_of (told ++ Side row value ∷ []) s ≡ option_map (λ (r : RowSaid). if bytes_eq row r.name then record r { side = option_or r.side (Some value) } else r) (row_of told s)
side_put told row value (RowTold kind name) =
    rw (first_of_push (side_of name) told (Side row value), quiet (range_of name) told (Side row value) refl) (by (bytes_eq row name))
  where
    by : (b : Bool) → Some (row_with name kind (option_or (first_of (side_of name) told) (if b then Some value else None)) (first_of (range_of name) told))
        ≡ Some (if b then row_with name kind (option_or (first_of (side_of name) told) (Some value)) (first_of (range_of name) told) else row_with name kind (first_of (side_of name) told) (first_of (range_of name) told))
    by true = refl
    by false = rw (or_none (first_of (side_of name) told)) refl
side_put told row value other = refl

range_put : (told : List Statement) (row : Name) (value : Decimal) (s : Statement)
    → row_of (told ++ Range row value ∷ []) s ≡ option_map (λ (r : RowSaid). if bytes_eq row r.name then record r { range = option_or r.range (Some value) } else r) (row_of told s)
range_put told row value (RowTold kind name) =
    rw (first_of_push (range_of name) told (Range row value), quiet (side_of name) told (Range row value) refl) (by (bytes_eq row name))
  where
    by : (b : Bool) → Some (row_with name kind (first_of (side_of name) told) (option_or (first_of (range_of name) told) (if b then Some value else None)))
        ≡ Some (if b then row_with name kind (first_of (side_of name) told) (option_or (first_of (range_of name) told) (Some value)) else row_with name kind (first_of (side_of name) told) (first_of (range_of name) told))
    by true = refl
    by false = rw (or_none (first_of (range_of name) told)) refl
range_put told row value other = refl

pub rows_side : (told : List Statement) (row : Name) (value : Decimal)
    → filter_map (row_of (told ++ Side row value ∷ [])) (told ++ Side row value ∷ []) ≡ change_rows row (λ r. record r { side = option_or r.side (Some value) }) (filter_map (row_of told) told)
rows_side told row value =
    quiet (row_of (told ++ Side row value ∷ [])) told (Side row value) refl
    ∙ changed_map (row_of (told ++ Side row value ∷ [])) (row_of told) (λ (r : RowSaid). if bytes_eq row r.name then record r { side = option_or r.side (Some value) } else r) (side_put told row value) told

pub rows_range : (told : List Statement) (row : Name) (value : Decimal)
    → filter_map (row_of (told ++ Range row value ∷ [])) (told ++ Range row value ∷ []) ≡ change_rows row (λ r. record r { range = option_or r.range (Some value) }) (filter_map (row_of told) told)
rows_range told row value =
    quiet (row_of (told ++ Range row value ∷ [])) told (Range row value) refl
    ∙ changed_map (row_of (told ++ Range row value ∷ [])) (row_of told) (λ (r : RowSaid). if bytes_eq row r.name then record r { range = option_or r.range (Some value) } else r) (range_put told row value) told

-- ---- columns

-- columns whose statements have the same bounds
same_columns : (told more : List Statement) → ((name : Name) → filter_map (bound_on name) more ≡ filter_map (bound_on name) told) → (gs : List ((Name × Bool) × List EntryPart)) → map (column_of more) gs ≡ map (column_of told) gs
same_columns told more same gs = λ j. map (λ (p : (Name × Bool) × List EntryPart). record { name = p.0.0; ends = ends_of p.0.1 (same p.0.0 j); entries = p.1 }) gs

pub columns_quiet : (rows : List Name) (told : List Statement) (s : Statement) → column_head s ≡ None → entry_of rows s ≡ None → ((name : Name) → bound_on name s ≡ None)
    → columns_of rows (told ++ s ∷ []) ≡ columns_of rows told
columns_quiet rows told s head entry bound =
    ap (map (column_of (told ++ s ∷ []))) (grouped_quiet column_head (entry_of rows) told s head entry)
    ∙ same_columns told (told ++ s ∷ []) (λ name. quiet (bound_on name) told s (bound name)) (grouped column_head (entry_of rows) told)

pub columns_row : (rows columns more : List Name) (told : List Statement) (kind : RowKind) (name : Name) → list_all (is_known rows columns) told ≡ true
    → columns_of (rows ++ more) (told ++ RowTold kind name ∷ []) ≡ columns_of rows told
columns_row rows columns more told kind name all =
    columns_quiet (rows ++ more) told (RowTold kind name) refl refl (λ n. refl)
    ∙ ap (map (column_of told)) (grouped_same column_head (entry_of rows) column_head (entry_of (rows ++ more)) (is_known rows columns) (λ s known. (refl, entry_same rows columns more s known)) told all)

pub columns_push : (rows columns : List Name) (told : List Statement) (name : Name) (in_block : Bool) → has_name columns name ≡ false → list_all (is_known rows columns) told ≡ true
    → columns_of rows (told ++ Column name in_block ∷ []) ≡ columns_of rows told ++ record { name = name; ends = bare_ends in_block; entries = [] } ∷ []
columns_push rows columns told name in_block new all =
    ap (map (column_of (told ++ Column name in_block ∷ []))) (head_push column_head (entry_of rows) told (Column name in_block) (name, in_block) refl)
    ∙ same_columns told (told ++ Column name in_block ∷ []) (λ n. quiet (bound_on n) told (Column name in_block) refl) (grouped column_head (entry_of rows) told ++ ((name, in_block), []) ∷ [])
    ∙ map-append (column_of told) (grouped column_head (entry_of rows) told) (((name, in_block), []) ∷ [])
    ∙ rw (no_bound rows columns name new told all, no_bounds in_block) refl

pub columns_entry : (rows : List Name) (told : List Statement) (row : Name) (value : Decimal)
    → columns_of rows (told ++ EntryTold row value ∷ [])
    ≡ change_last (λ (c : ColumnSaid). record c { entries = c.entries ++ option_list (option_map (λ place. record { row = place; value = value }) (place_in rows row)) }) (columns_of rows told)
columns_entry rows told row value =
    ap (map (column_of (told ++ EntryTold row value ∷ []))) (item_push column_head (entry_of rows) told (EntryTold row value) refl)
    ∙ same_columns told (told ++ EntryTold row value ∷ []) (λ n. quiet (bound_on n) told (EntryTold row value) refl) (change_last (λ (g : (Name × Bool) × List EntryPart). (g.0, g.1 ++ option_list (entry_of rows (EntryTold row value)))) (grouped column_head (entry_of rows) told))
    ∙ map_last (column_of told) (λ (g : (Name × Bool) × List EntryPart). (g.0, g.1 ++ option_list (entry_of rows (EntryTold row value))))
    (λ (c : ColumnSaid). record c { entries = c.entries ++ option_list (option_map (λ place. record { row = place; value = value }) (place_in rows row)) }) (λ g. refl) (grouped column_head (entry_of rows) told)

bound_put : (told : List Statement) (kind : BoundKind) (column : Name) (value : Option Decimal) (p : (Name × Bool) × List EntryPart)
    → column_of (told ++ Bound kind column value ∷ []) p ≡ (if bytes_eq column p.0.0 then record { name = p.0.0; ends = with_bound kind value (ends_of p.0.1 (filter_map (bound_on p.0.0) told)); entries = p.1 } else column_of told p)
bound_put told kind column value p = rw (loud (bound_on p.0.0) told (Bound kind column value)) (by (bytes_eq column p.0.0))
  where
    by : (b : Bool) → record { name = p.0.0; ends = ends_of p.0.1 (filter_map (bound_on p.0.0) told ++ option_list (if b then Some (kind, value) else None)); entries = p.1 }
        ≡ (if b then record { name = p.0.0; ends = with_bound kind value (ends_of p.0.1 (filter_map (bound_on p.0.0) told)); entries = p.1 } else column_of told p)
    by true = rw (ends-law p.0.1 (filter_map (bound_on p.0.0) told) kind value) refl
    by false = rw (append-nil (filter_map (bound_on p.0.0) told)) refl

pub columns_bound : (rows : List Name) (told : List Statement) (kind : BoundKind) (column : Name) (value : Option Decimal)
    → columns_of rows (told ++ Bound kind column value ∷ []) ≡ change_columns column (λ c. record c { ends = with_bound kind value c.ends }) (columns_of rows told)
columns_bound rows told kind column value =
    ap (map (column_of (told ++ Bound kind column value ∷ []))) (grouped_quiet column_head (entry_of rows) told (Bound kind column value) refl refl)
    ∙ map_in_two (column_of (told ++ Bound kind column value ∷ [])) (column_of told) (λ (c : ColumnSaid). if bytes_eq column c.name then record c { ends = with_bound kind value c.ends } else c) (bound_put told kind column value)
    (grouped column_head (entry_of rows) told)

-- ---- sets

pub sets_quiet : (rows columns : List Name) (told : List Statement) (s : Statement) → set_head rows s ≡ None → member_of columns s ≡ None → sets_of rows columns (told ++ s ∷ []) ≡ sets_of rows columns told
sets_quiet rows columns told s head member = ap (map set_of) (grouped_quiet (set_head rows) (member_of columns) told s head member)

pub sets_row : (rows columns more : List Name) (told : List Statement) → list_all (is_known rows columns) told ≡ true → sets_of (rows ++ more) columns told ≡ sets_of rows columns told
sets_row rows columns more told all = ap (map set_of) (grouped_same (set_head rows) (member_of columns) (set_head (rows ++ more)) (member_of columns) (is_known rows columns) (λ s known. (set_same rows columns more s known, refl)) told all)

pub sets_column : (rows columns more : List Name) (told : List Statement) → list_all (is_known rows columns) told ≡ true → sets_of rows (columns ++ more) told ≡ sets_of rows columns told
sets_column rows columns more told all = ap (map set_of) (grouped_same (set_head rows) (member_of columns) (set_head rows) (member_of (columns ++ more)) (is_known rows columns) (λ s known. (refl, member_same rows columns more s known)) told all)

pub sets_push : (rows columns : List Name) (told : List Statement) (kind : SetKind) (name : Name) (reference : Option Name)
    → sets_of rows columns (told ++ Set kind name reference ∷ []) ≡ sets_of rows columns told ++ record { name = name; kind = kind; reference = option_and_then (place_in rows) reference; members = [] } ∷ []
sets_push rows columns told kind name reference =
    ap (map set_of) (head_push (set_head rows) (member_of columns) told (Set kind name reference) (name, kind, option_and_then (place_in rows) reference) refl)
    ∙ map-append set_of (grouped (set_head rows) (member_of columns) told) (((name, kind, option_and_then (place_in rows) reference), []) ∷ [])

pub sets_member : (rows columns : List Name) (told : List Statement) (column : Name) (weight : Option Decimal)
    → sets_of rows columns (told ++ MemberTold column weight ∷ [])
    ≡ change_last (λ (s : SetSaid). record s { members = s.members ++ option_list (option_map (λ place. record { column = place; weight = option_map (λ v. times_ten v 6) weight }) (place_in columns column)) }) (sets_of rows columns told)
sets_member rows columns told column weight =
    ap (map set_of) (item_push (set_head rows) (member_of columns) told (MemberTold column weight) refl)
    ∙ map_last set_of (λ (g : (Name × SetKind × Option ℕ) × List MemberPart). (g.0, g.1 ++ option_list (member_of columns (MemberTold column weight))))
    (λ (s : SetSaid). record s { members = s.members ++ option_list (option_map (λ place. record { column = place; weight = option_map (λ v. times_ten v 6) weight }) (place_in columns column)) }) (λ g. refl) (grouped (set_head rows) (member_of columns) told)

-- ---- arcs

pub arcs_row : (rows columns more : List Name) (told : List Statement) → list_all (is_known rows columns) told ≡ true → filter_map (arc_of (rows ++ more) columns) told ≡ filter_map (arc_of rows columns) told
arcs_row rows columns more told all = same_map (arc_of (rows ++ more) columns) (arc_of rows columns) (is_known rows columns) (arc_same_row rows columns more) told all

pub arcs_column : (rows columns more : List Name) (told : List Statement) → list_all (is_known rows columns) told ≡ true → filter_map (arc_of rows (columns ++ more)) told ≡ filter_map (arc_of rows columns) told
arcs_column rows columns more told all = same_map (arc_of rows (columns ++ more)) (arc_of rows columns) (is_known rows columns) (arc_same_column rows columns more) told all
