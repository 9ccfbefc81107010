-- The files that a desk in memory keeps, by their names. A name stands at most once among them; if it stood twice,
-- the first place would count.
use Rattle.std.specs.Prelude.{ℕ, ◌+◌, max, cond, List, [], ◌∷◌, length, Option, Some, None, option_map, option_and_then, slice_get, bytes_eq}
use Rattle.std.specs.List.{position}
use Rattle.um_outside.specs.Scenes.{Files}
use Rattle.um_outside.specs.declared.stored.Stored.{Stored}

abbrev pub place_of : List Stored → List ℕ → Option ℕ
place_of stored name = position (λ (file : Stored). bytes_eq file.name name) stored

abbrev pub stored_in : List Stored → List ℕ → Option Stored
stored_in stored name = option_and_then (slice_get stored) (place_of stored name)

-- The bytes of a file that is there.
abbrev pub contents : Stored → Option (List ℕ)
contents file = cond file.exists (Some file.bytes.items) None

abbrev pub files_in : List Stored → Files
files_in stored name = option_and_then contents (stored_in stored name)

-- The room that was set for files of this name.
abbrev pub room_in : List Stored → List ℕ → Option ℕ
room_in stored name = option_and_then (λ (file : Stored). file.room) (stored_in stored name)

abbrev pub name_at : List Stored → ℕ → Option (List ℕ)
name_at stored place = option_map (λ (file : Stored). file.name) (slice_get stored place)

-- How many bytes a file's memory takes.
abbrev pub capacity_of : Stored → ℕ
capacity_of file = length file.bytes.items + file.bytes.spare

-- The greatest capacity of a file.
abbrev pub greatest_capacity : List Stored → ℕ
greatest_capacity [] = 0
greatest_capacity (file ∷ stored) = max (capacity_of file) (greatest_capacity stored)
