-- Columns that are told to a maker.
use Rattle.std.proofs.Common.{◌≡◌, Bool, true, false, List, [], ◌∷◌, ◌++◌, map, position, Option, None, Some, refl, sym, ap, ◌∙◌, true≢false, is_some}
use Rattle.std.specs.Str.{bytes_eq}
use Rattle.um_statements.specs.declared.fault.Fault.TheVariants.{TwiceColumn, TooMany}
use Rattle.um_made.specs.declared.parts.ColumnPart.{ColumnPart}
use Rattle.um_statements.specs.Statements.{Name, Column}
use Rattle.um_statements.specs.Said.{Said, ColumnSaid, column_place}
use Rattle.um_maker.specs.NamedLists.{place_of}
use Rattle.um_statements.specs.CallRules.{fault_of, rules_of, has_column, is_full_of_columns, with_statement, bare_ends}
use Rattle.um_made.specs.Views.{column_said}

pub names_of_columns : (items : List (Name × ColumnPart)) → map (λ (r : ColumnSaid). r.name) (map column_said items) ≡ map (λ (e : Name × ColumnPart). e.0) items
names_of_columns [] = refl
names_of_columns (e ∷ items) = ap (λ names. e.0 ∷ names) (names_of_columns items)

pub place_of_column : (items : List (Name × ColumnPart)) (name : Name) → column_place (map column_said items) name ≡ place_of items name
place_of_column items name = ap (position (bytes_eq name)) (names_of_columns items)

pub twice_column : (said : Said) (name : Name) (integer : Bool) → has_column said name ≡ true → fault_of said (Column name integer) ≡ Some TwiceColumn
unfolding rules_of
twice_column said name integer twice = rw twice

pub many_columns : (said : Said) (name : Name) (integer : Bool) → has_column said name ≡ false → is_full_of_columns said ≡ true → fault_of said (Column name integer) ≡ Some TooMany
unfolding rules_of
many_columns said name integer new full = rw (new, full)

pub column_allowed : (said : Said) (name : Name) (integer : Bool) → has_column said name ≡ false → is_full_of_columns said ≡ false → fault_of said (Column name integer) ≡ None
unfolding rules_of
column_allowed said name integer new room = rw (new, room)

none_of : {A : Type 0} (o : Option A) → is_some o ≡ false → o ≡ None
none_of None e = refl
none_of (Some x) e = absurd (true≢false e)

pub no_place_of_column : (said : Said) (items : List (Name × ColumnPart)) (name : Name) → said.columns ≡ map column_said items → has_column said name ≡ false → place_of items name ≡ None
no_place_of_column said items name same new = none_of _ (ap is_some (sym (place_of_column items name)) ∙ ap (λ columns. is_some (column_place columns name)) (sym same) ∙ new)

map_push : (items : List (Name × ColumnPart)) (e : Name × ColumnPart) → map column_said (items ++ e ∷ []) ≡ map column_said items ++ column_said e ∷ []
map_push [] e = refl
map_push (x ∷ items) e = ap (λ columns. column_said x ∷ columns) (map_push items e)

pub column_pushed : (said : Said) (name : Name) (integer : Bool) (items pushed : List (Name × ColumnPart)) (part : ColumnPart) → said.columns ≡ map column_said items
    → column_said (name, part) ≡ record { name = name; ends = bare_ends integer; entries = [] }
    → pushed ≡ items ++ (name, part) ∷ [] → record said { columns = map column_said pushed } ≡ with_statement (Column name integer) said
unfolding with_statement
column_pushed said name integer items pushed part same bare new = rw (new, map_push, same, bare) refl
