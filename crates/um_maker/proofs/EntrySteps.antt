-- Entries that are told to a maker.
use Rattle.std.proofs.Common.{◌≡◌, ℕ, ◌-◌, true, false, List, [], ◌∷◌, ◌++◌, map, length, None, Some, refl, ap, slice_get, Result, Ok, Err, OnOk, OnErr}
use Rattle.um_num.specs.declared.decimal.Decimal.{Decimal}
use Rattle.um_statements.specs.declared.fault.Fault.TheVariants.{UnknownRow, TwiceEntry}
use Rattle.um_statements.specs.Statements.{Name, EntryTold}
use Rattle.um_statements.specs.Said.{Said, ColumnSaid, row_place}
use Rattle.um_statements.specs.CallRules.{fault_of, rules_of, last_has, holds_row, with_statement}
use Rattle.um_made.specs.declared.parts.ColumnPart.{ColumnPart}
use Rattle.um_maker.specs.NamedLists.{with_item}
use Rattle.um_made.specs.Views.{column_said}
use Rattle.um_maker.proofs.SeenItems.{last_changed, last_same}

pub unknown_row : (said : Said) (row : Name) (value : Decimal) → row_place said.rows row ≡ None → fault_of said (EntryTold row value) ≡ Some UnknownRow
unfolding rules_of
unknown_row said row value none = rw none

pub twice_entry : (said : Said) (row : Name) (value : Decimal) (place : ℕ) → row_place said.rows row ≡ Some place → last_has (λ (c : ColumnSaid). holds_row place c.entries) said.columns ≡ true
    → fault_of said (EntryTold row value) ≡ Some TwiceEntry
unfolding rules_of
twice_entry said row value place at twice = rw (at, twice)

pub entry_allowed : (said : Said) (row : Name) (value : Decimal) (place : ℕ) → row_place said.rows row ≡ Some place → last_has (λ (c : ColumnSaid). holds_row place c.entries) said.columns ≡ false
    → fault_of said (EntryTold row value) ≡ None
unfolding rules_of
entry_allowed said row value place at new = rw (at, new)

-- ---- the last item

entry_pushed : (said : Said) (row : Name) (value : Decimal) (place : ℕ) (items : List (Name × ColumnPart)) (part changed : ColumnPart) → said.columns ≡ map column_said items
    → row_place said.rows row ≡ Some place
    → slice_get (map (λ (e : Name × ColumnPart). e.1) items) (length items - 1) ≡ Some part
    → changed.ends ≡ part.ends → changed.entries.items ≡ part.entries.items ++ record { row = place; value = value } ∷ []
    → record said { columns = map column_said (with_item items (length items - 1) changed) } ≡ with_statement (EntryTold row value) said
unfolding with_statement
entry_pushed said row value place items part changed same at last ends entries =
    rw (at, same) (ap (λ columns. record said { columns = columns }) (last_changed column_said _ items part changed last (λ name. rw (ends, entries) refl)))

-- the same, as a maker's call leaves it
pub entry_told : (said : Said) (row : Name) (value : Decimal) (place : ℕ) (items : List (Name × ColumnPart)) (k : ℕ) (part changed : ColumnPart) → said.columns ≡ map column_said items
    → row_place said.rows row ≡ Some place → k ≡ length items
    → slice_get (map (λ (e : Name × ColumnPart). e.1) items) (k - 1) ≡ Some part
    → changed.ends ≡ part.ends → changed.entries.items ≡ part.entries.items ++ record { row = place; value = value } ∷ []
    → record said { columns = map column_said (with_item items (k - 1) changed) } ≡ with_statement (EntryTold row value) said
entry_told said row value place items k part changed same at long last ends entries =
    rw long (entry_pushed said row value place items part changed same at (rw (← long) last) ends entries)

pub entry_refused : (items : List (Name × ColumnPart)) (k : ℕ) (part changed : ColumnPart) → k ≡ length items
    → slice_get (map (λ (e : Name × ColumnPart). e.1) items) (k - 1) ≡ Some part → changed ≡ part → map column_said (with_item items (k - 1) changed) ≡ map column_said items
entry_refused items k part changed long last same = rw (long, same) (ap (map column_said) (last_same items part (rw (← long) last)))

-- what follows from a fact on Ok, and from one on Err
pub on_ok : {A B P Q : Type 0} (r : Result A B) → (P → Q) → OnOk r P → OnOk r Q
on_ok (Ok x) f h = f h
on_ok (Err e) f h = tt

pub on_err : {A B P Q : Type 0} (r : Result A B) → (P → Q) → OnErr r P → OnErr r Q
on_err (Ok x) f h = tt
on_err (Err e) f h = f h
