-- Desks in memory that are as they were, and then changed.
use Rattle.std.proofs.Common.{ℕ, List, ◌∙◌, Result, Ok, Err, OnOk, OnErr}
use Rattle.um_outside.specs.MemoryDesks.{SameState, SameDesk, FileSet, RoomSet}
use Rattle.um_outside.specs.declared.memory_desk.MemoryDesk.{MemoryDesk}

pub same_state : (a b c : MemoryDesk) → SameState a b → SameState b c → SameState a c
same_state a b c s t = record {
  mode = t.mode ∙ s.mode;
  given = t.given ∙ s.given;
  put = t.put ∙ s.put;
  stopped = t.stopped ∙ s.stopped;
  made = t.made ∙ s.made;
  left = t.left ∙ s.left;
  piece = t.piece ∙ s.piece;
  asked = t.asked ∙ s.asked;
}

pub same_desk : (a b c : MemoryDesk) → SameDesk a b → SameDesk b c → SameDesk a c
same_desk a b c s t = record {
  state = same_state a b c s.state t.state;
  failing = t.failing ∙ s.failing;
  files = λ name. t.files name ∙ s.files name;
  rooms = λ name. t.rooms name ∙ s.rooms name;
}

pub file_set : (name bytes : List ℕ) (a b c : MemoryDesk) → SameDesk a b → FileSet name bytes b c → FileSet name bytes a c
file_set name bytes a b c s t = record {
  state = same_state a b c s.state t.state;
  failing = t.failing ∙ s.failing;
  file = t.file;
  others = λ other differs. t.others other differs ∙ s.files other;
  rooms = λ other. t.rooms other ∙ s.rooms other;
}

pub room_set : (name : List ℕ) (bytes : ℕ) (a b c : MemoryDesk) → SameDesk a b → RoomSet name bytes b c → RoomSet name bytes a c
room_set name bytes a b c s t = record {
  state = same_state a b c s.state t.state;
  failing = t.failing ∙ s.failing;
  files = λ other. t.files other ∙ s.files other;
  room = t.room;
  others = λ other differs. t.others other differs ∙ s.rooms other;
}

pub on_ok : {A E : Type 0} (r : Result A E) (P Q : Type 0) → (P → Q) → OnOk r P → OnOk r Q
on_ok (Ok x) P Q f h = f h
on_ok (Err e) P Q f h = tt

pub on_err : {A E : Type 0} (r : Result A E) (P Q : Type 0) → (P → Q) → OnErr r P → OnErr r Q
on_err (Ok x) P Q f h = tt
on_err (Err e) P Q f h = f h
