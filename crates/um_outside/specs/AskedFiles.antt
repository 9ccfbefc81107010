-- How a desk in memory notes the files that are asked for.
use Rattle.std.specs.Prelude.{ℕ, ◌-◌, ◌≤◌, Bool, ◌&&◌, cond, List, [], ◌∷◌, ◌++◌, length, slice_range, nat_le, Option, None, option_map, is_some}
use Rattle.um_outside.specs.Scenes.{Asked}
use Rattle.um_outside.specs.declared.asked.Noted.{Noted}

-- The files asked for, where each of them was noted; how many more can be noted, and how many bytes their names may have together.
pub record NotesValue : Type 0 where
  pub asked : Option (List Asked)
  pub files : ℕ
  pub bytes : ℕ

-- Whether one more file can be noted.
abbrev pub has_room_for : Asked → NotesValue → Bool
has_room_for file notes = is_some notes.asked && nat_le 1 notes.files && nat_le (length file.name) notes.bytes

-- The notes once this file was asked for. Where it can't be noted, nothing is told from then on.
abbrev pub noting : Asked → NotesValue → NotesValue
noting file notes =
    cond (has_room_for file notes) (record {
      asked = option_map (λ asked. asked ++ file ∷ []) notes.asked;
      files = notes.files - 1;
      bytes = notes.bytes - length file.name;
    }) (record notes { asked = None })

-- The file of a note, whose name is a part of these bytes.
abbrev pub asked_by : List ℕ → Noted → Asked
asked_by names note = record { access = note.access; name = slice_range names note.from note.to }

-- The name of the note is a part of these bytes.
pub record IsWithin (names : List ℕ) (note : Noted) : Type 0 where
  pub order : note.from ≤ note.to
  pub end : note.to ≤ length names
