-- Rows that are told to a maker.
use Rattle.std.proofs.Common.{◌≡◌, true, false, List, [], ◌∷◌, ◌++◌, map, position, Option, None, Some, refl, sym, ap, ◌∙◌, true≢false, is_some}
use Rattle.std.specs.Str.{bytes_eq}
use Rattle.um_statements.specs.declared.fault.Fault.TheVariants.{TwiceRow, TooMany}
use Rattle.um_statements.specs.declared.parts.RowKind.{RowKind}
use Rattle.um_made.specs.declared.parts.RowPart.{RowPart}
use Rattle.um_statements.specs.Statements.{Name, RowTold}
use Rattle.um_statements.specs.Said.{Said, RowSaid, row_place}
use Rattle.um_maker.specs.NamedLists.{place_of}
use Rattle.um_statements.specs.CallRules.{fault_of, rules_of, has_row, is_full_of_rows, with_statement}
use Rattle.um_made.specs.Views.{row_said}

pub names_of_rows : (items : List (Name × RowPart)) → map (λ (r : RowSaid). r.name) (map row_said items) ≡ map (λ (e : Name × RowPart). e.0) items
names_of_rows [] = refl
names_of_rows (e ∷ items) = ap (λ names. e.0 ∷ names) (names_of_rows items)

pub place_of_row : (items : List (Name × RowPart)) (name : Name) → row_place (map row_said items) name ≡ place_of items name
place_of_row items name = ap (position (bytes_eq name)) (names_of_rows items)

pub twice_row : (said : Said) (kind : RowKind) (name : Name) → has_row said name ≡ true → fault_of said (RowTold kind name) ≡ Some TwiceRow
unfolding rules_of
twice_row said kind name twice = rw twice

pub many_rows : (said : Said) (kind : RowKind) (name : Name) → has_row said name ≡ false → is_full_of_rows said kind ≡ true → fault_of said (RowTold kind name) ≡ Some TooMany
unfolding rules_of
many_rows said kind name new full = rw (new, full)

pub row_allowed : (said : Said) (kind : RowKind) (name : Name) → has_row said name ≡ false → is_full_of_rows said kind ≡ false → fault_of said (RowTold kind name) ≡ None
unfolding rules_of
row_allowed said kind name new room = rw (new, room)

none_of : {A : Type 0} (o : Option A) → is_some o ≡ false → o ≡ None
none_of None e = refl
none_of (Some x) e = absurd (true≢false e)

pub no_place_of_row : (said : Said) (items : List (Name × RowPart)) (name : Name) → said.rows ≡ map row_said items → has_row said name ≡ false → place_of items name ≡ None
no_place_of_row said items name same new = none_of _ (ap is_some (sym (place_of_row items name)) ∙ ap (λ rows. is_some (row_place rows name)) (sym same) ∙ new)

map_push : (items : List (Name × RowPart)) (e : Name × RowPart) → map row_said (items ++ e ∷ []) ≡ map row_said items ++ row_said e ∷ []
map_push [] e = refl
map_push (x ∷ items) e = ap (λ rows. row_said x ∷ rows) (map_push items e)

pub row_pushed : (said : Said) (kind : RowKind) (name : Name) (items pushed : List (Name × RowPart)) → said.rows ≡ map row_said items
    → pushed ≡ items ++ (name, record { kind = kind; side = None; range = None }) ∷ [] → record said { rows = map row_said pushed } ≡ with_statement (RowTold kind name) said
unfolding with_statement
row_pushed said kind name items pushed same new = rw (new, map_push, same) refl
