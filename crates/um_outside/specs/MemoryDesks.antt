-- What a desk in memory tells.
use Rattle.std.specs.Prelude.{◌≡◌, ◌≢◌, ℕ, ◌-◌, Bool, cond, List, [], ◌∷◌, ◌++◌, length, Option, Some, None, option_and_then, unwrap_or, slice_get}
use Rattle.um_outside.specs.Scenes.{Scene}
use Rattle.um_outside.specs.Stores.{files_in, room_in, name_at, contents}
use Rattle.um_outside.specs.OpenFiles.{mode_from}
use Rattle.um_outside.specs.Numbered.{next_number, is_among}
use Rattle.um_outside.specs.declared.memory_desk.MemoryDesk.{MemoryDesk}

abbrev pub file_in : MemoryDesk → List ℕ → Option (List ℕ)
file_in desk = files_in desk.files.items

abbrev pub room_for : MemoryDesk → List ℕ → Option ℕ
room_for desk = room_in desk.files.items

abbrev pub scene_of : MemoryDesk → Scene
scene_of desk = record {
  mode = mode_from desk.doing (name_at desk.files.items desk.current);
  given = Some desk.given.items;
  put = Some desk.put.items;
  holds = Some (file_in desk);
  asked = desk.notes.asked;
  faults = cond desk.stopped 1 0;
  stopped = desk.stopped;
}

-- Whether the next call is one that was told to fail.
abbrev pub fails_next : MemoryDesk → Bool
fails_next desk = is_among (next_number desk.calls.made) desk.calls.failing.items

-- How many bytes of the open file are still to be given.
abbrev pub bytes_left : MemoryDesk → ℕ
bytes_left desk =
    length (unwrap_or (option_and_then contents (slice_get desk.files.items desk.current)) []) - length desk.given.items

-- How many bytes may still be put.
abbrev pub room_left : MemoryDesk → ℕ
room_left desk = desk.left

-- What was set stays: the piece, the calls that fail, and the rooms.
pub record SameSettings (old new : MemoryDesk) : Type 0 where
  pub piece : new.piece ≡ old.piece
  pub failing : new.calls.failing.items ≡ old.calls.failing.items
  pub rooms : (name : List ℕ) → room_for new name ≡ room_for old name

-- A call of the desk counts itself and leaves what was set.
pub record CallMade (old new : MemoryDesk) : Type 0 where
  pub made : new.calls.made ≡ next_number old.calls.made
  pub settings : SameSettings old new

-- All but the files, the rooms, the room for notes and the calls that fail is as it was.
pub record SameState (old new : MemoryDesk) : Type 0 where
  pub mode : (scene_of new).mode ≡ (scene_of old).mode
  pub given : new.given.items ≡ old.given.items
  pub put : new.put.items ≡ old.put.items
  pub stopped : new.stopped ≡ old.stopped
  pub made : new.calls.made ≡ old.calls.made
  pub left : room_left new ≡ room_left old
  pub piece : new.piece ≡ old.piece
  pub asked : new.notes.asked ≡ old.notes.asked

-- All is as it was, but for memory in reserve.
pub record SameDesk (old new : MemoryDesk) : Type 0 where
  pub state : SameState old new
  pub failing : new.calls.failing.items ≡ old.calls.failing.items
  pub files : (name : List ℕ) → file_in new name ≡ file_in old name
  pub rooms : (name : List ℕ) → room_for new name ≡ room_for old name

-- The file of this name now holds these bytes, and nothing else has changed.
pub record FileSet (name bytes : List ℕ) (old new : MemoryDesk) : Type 0 where
  pub state : SameState old new
  pub failing : new.calls.failing.items ≡ old.calls.failing.items
  pub file : file_in new name ≡ Some bytes
  pub others : (other : List ℕ) → other ≢ name → file_in new other ≡ file_in old other
  pub rooms : (other : List ℕ) → room_for new other ≡ room_for old other

-- The room of this name is now this many bytes, and nothing else has changed.
pub record RoomSet (name : List ℕ) (bytes : ℕ) (old new : MemoryDesk) : Type 0 where
  pub state : SameState old new
  pub failing : new.calls.failing.items ≡ old.calls.failing.items
  pub files : (other : List ℕ) → file_in new other ≡ file_in old other
  pub room : room_for new name ≡ Some bytes
  pub others : (other : List ℕ) → other ≢ name → room_for new other ≡ room_for old other

-- The call of this number now fails, and nothing else has changed.
pub record FailureSet (call : ℕ) (old new : MemoryDesk) : Type 0 where
  pub state : SameState old new
  pub failing : new.calls.failing.items ≡ old.calls.failing.items ++ call ∷ []
  pub files : (name : List ℕ) → file_in new name ≡ file_in old name
  pub rooms : (name : List ℕ) → room_for new name ≡ room_for old name

-- A desk on which nothing was done or set.
pub record IsFresh (piece : ℕ) (desk : MemoryDesk) : Type 0 where
  pub given : desk.given.items ≡ []
  pub put : desk.put.items ≡ []
  pub piece_is : desk.piece ≡ piece
  pub made : desk.calls.made ≡ 0
  pub failing : desk.calls.failing.items ≡ []
  pub notes : desk.notes ≡ record { asked = Some []; files = 0; bytes = 0 }
  pub files : (name : List ℕ) → file_in desk name ≡ None
  pub rooms : (name : List ℕ) → room_for desk name ≡ None
