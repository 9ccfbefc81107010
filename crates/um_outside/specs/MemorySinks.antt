-- What a sink in memory tells.
use Rattle.std.specs.Prelude.{◌≡◌, ℕ, Bool, cond, List, Some}
use Rattle.um_outside.specs.Sinks.{SinkScene}
use Rattle.um_outside.specs.Numbered.{next_number, is_among}
use Rattle.um_outside.specs.declared.memory_sink.MemorySink.{MemorySink}

-- All of a sink but the memory that it keeps in reserve.
pub record SinkState : Type 0 where
  pub held : List ℕ
  pub room : ℕ
  pub piece : ℕ
  pub calls : ℕ
  pub failing : List ℕ
  pub stopped : Bool

abbrev pub state_of : MemorySink → SinkState
state_of sink = record { held = sink.held.items; room = sink.room; piece = sink.piece; calls = sink.calls.made; failing = sink.calls.failing.items; stopped = sink.stopped }

abbrev pub told_of : MemorySink → SinkScene
told_of sink = record { held = Some sink.held.items; faults = cond sink.stopped 1 0; stopped = sink.stopped }

-- Whether the next write is one that was told to fail.
abbrev pub write_fails_next : MemorySink → Bool
write_fails_next sink = is_among (next_number sink.calls.made) sink.calls.failing.items

-- A write counts itself and leaves what was set.
pub record WriteMade (old new : SinkState) : Type 0 where
  pub calls : new.calls ≡ next_number old.calls
  pub failing : new.failing ≡ old.failing
  pub piece : new.piece ≡ old.piece
  pub room : new.room ≡ old.room
