-- The file that is open on a desk in memory.
use Rattle.std.specs.Prelude.{◌≡◌, ℕ, ◌≤◌, true, List, length, Option, Some, take}
use Rattle.um_outside.specs.Scenes.{Mode, Idle, Reading, Writing}
use Rattle.um_outside.specs.Stores.{place_of}
use Rattle.um_outside.specs.declared.stored.Stored.{Stored}
use Rattle.um_outside.specs.declared.memory_desk.Doing.{Doing}
use Rattle.um_outside.specs.declared.memory_desk.Doing.TheVariants as doing

abbrev pub mode_from : Doing → Option (List ℕ) → Mode
mode_from doing.Idle name = Idle
mode_from doing.Reading name = Reading name
mode_from doing.Writing name = Writing name

abbrev pub IsBusy : Doing → Type 0
IsBusy doing.Idle = ⊥
IsBusy doing.Reading = Unit {0}
IsBusy doing.Writing = Unit {0}

-- The open file is found by its name, and is there. The bytes given are its front; the bytes put are all of it,
-- and it has room for what may still be put.
pub record IsOpenFile (stored : List Stored) (place left : ℕ) (now : Doing) (given put : List ℕ) (file : Stored) : Type 0 where
  pub found : place_of stored file.name ≡ Some place
  pub exists : file.exists ≡ true
  pub within : now ≡ doing.Reading → length given ≤ length file.bytes.items
  pub given_front : now ≡ doing.Reading → given ≡ take (length given) file.bytes.items
  pub put_whole : now ≡ doing.Writing → put ≡ file.bytes.items
  pub room_left : now ≡ doing.Writing → left ≤ file.bytes.spare
