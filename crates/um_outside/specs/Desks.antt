-- What each call on a desk does: the scene before, the answer, the scene after.
use Rattle.std.specs.Prelude.{◌≡◌, ◌≢◌, ℕ, ◌<◌, ◌≤◌, true, List, [], ◌∷◌, ◌++◌, take, length, Option, Some, None, option_map, Result, MatchResult, IfSome, IsSomeAnd}
use Rattle.um_outside.specs.declared.Failed.{Failed}
use Rattle.um_outside.specs.Scenes.{Scene, Mode, Idle, Reading, Writing, Files, Asked, to_open, to_create}

-- The call went well: the count has not fallen, and the flag is as it was.
pub record WentWell (s t : Scene) : Type 0 where
  pub faults : s.faults ≤ t.faults
  pub stopped : t.stopped ≡ s.stopped

-- The call failed: the count rose in it, and the flag is set.
pub record Faulted (s t : Scene) : Type 0 where
  pub faults : s.faults < t.faults
  pub stopped : t.stopped ≡ true

-- These files were asked for, in this order, behind those of before. A desk that ceases to tell of them says nothing.
abbrev pub Asks : List Asked → Option (List Asked) → Option (List Asked) → Type 0
Asks files before after = IfSome after (λ all. IsSomeAnd before (λ some. all ≡ some ++ files))

-- The first list is the front of the second.
abbrev pub IsFront : List ℕ → List ℕ → Type 0
IsFront front whole = front ≡ take (length front) whole

-- The files are told as before, and none but the file of this name has changed.
abbrev pub ChangesOnly : List ℕ → Option Files → Option Files → Type 0
ChangesOnly name None after = after ≡ None
ChangesOnly name (Some before) after = IsSomeAnd after (λ files. (other : List ℕ) → other ≢ name → files other ≡ before other)

-- None but the file that is open for writing has changed.
abbrev pub ChangesWritten : Mode → Option Files → Option Files → Type 0
ChangesWritten Idle before after = after ≡ before
ChangesWritten (Reading name) before after = after ≡ before
ChangesWritten (Writing None) before after = after ≡ before
ChangesWritten (Writing (Some name)) before after = ChangesOnly name before after

-- So it stands between the bytes given and the file that is open for reading, where the desk tells both.
abbrev pub GivenAndFile : Scene → (List ℕ → List ℕ → Type 0) → Type 0
GivenAndFile s R =
    IfSome s.given (λ given. IfSome s.holds (λ files. (name : List ℕ) → s.mode ≡ Reading (Some name) → IsSomeAnd (files name) (R given)))

-- So it stands between the bytes put and the file that is open for writing, where the desk tells both.
-- The file is looked for in the second scene, by the name that the first one's mode has.
abbrev pub PutAndFile : Scene → Scene → (List ℕ → List ℕ → Type 0) → Type 0
PutAndFile s t R =
    IfSome t.put (λ put. IfSome t.holds (λ files. (name : List ℕ) → s.mode ≡ Writing (Some name) → IsSomeAnd (files name) (R put)))

-- A call that failed and changed nothing.
pub record FailedStill (s t : Scene) : Type 0 where
  pub fault : Faulted s t
  pub mode : t.mode ≡ s.mode
  pub given : t.given ≡ s.given
  pub put : t.put ≡ s.put
  pub holds : t.holds ≡ s.holds
  pub asked : t.asked ≡ s.asked

-- A file was opened.
pub record Opened (name : List ℕ) (s t : Scene) : Type 0 where
  pub well : WentWell s t
  pub mode : t.mode ≡ Reading (option_map (λ _. name) s.holds)
  pub given : t.given ≡ option_map (λ _. []) s.given
  pub put : t.put ≡ s.put
  pub holds : t.holds ≡ s.holds
  pub asked : Asks (to_open name ∷ []) s.asked t.asked

-- No file was opened, though one was asked for.
pub record NotOpened (name : List ℕ) (s t : Scene) : Type 0 where
  pub fault : Faulted s t
  pub mode : t.mode ≡ s.mode
  pub given : t.given ≡ s.given
  pub put : t.put ≡ s.put
  pub holds : t.holds ≡ s.holds
  pub asked : Asks (to_open name ∷ []) s.asked t.asked

abbrev pub OpensFile : List ℕ → Scene → {T : Type 0} → Result T Failed → Scene → Type 0
OpensFile name s r t = MatchResult r (λ _. Opened name s t) (λ _. NotOpened name s t)

-- These bytes were given. They go on in the file; where there are none, the file is at its end.
pub record Gave (bytes : List ℕ) (s t : Scene) : Type 0 where
  pub well : WentWell s t
  pub mode : t.mode ≡ s.mode
  pub given : t.given ≡ option_map (λ given. given ++ bytes) s.given
  pub front : GivenAndFile t (λ given file. IsFront given file)
  pub end : bytes ≡ [] → GivenAndFile t (λ given file. given ≡ file)
  pub put : t.put ≡ s.put
  pub holds : t.holds ≡ s.holds
  pub asked : t.asked ≡ s.asked

abbrev pub ReadsFile : List ℕ → Scene → Result ℕ Failed → Scene → Type 0
ReadsFile into s r t = MatchResult r (λ n. (n ≤ length into) × Gave (take n into) s t) (λ _. FailedStill s t)

-- A file was made, or made empty.
pub record Created (name : List ℕ) (s t : Scene) : Type 0 where
  pub well : WentWell s t
  pub mode : t.mode ≡ Writing (option_map (λ _. name) s.holds)
  pub given : t.given ≡ s.given
  pub put : t.put ≡ option_map (λ _. []) s.put
  pub holds : ChangesOnly name s.holds t.holds
  pub empty : IfSome t.holds (λ files. files name ≡ Some [])
  pub asked : Asks (to_create name ∷ []) s.asked t.asked

-- No file was made; the one of this name may be lost.
pub record NotCreated (name : List ℕ) (s t : Scene) : Type 0 where
  pub fault : Faulted s t
  pub mode : t.mode ≡ s.mode
  pub given : t.given ≡ s.given
  pub put : t.put ≡ s.put
  pub holds : ChangesOnly name s.holds t.holds
  pub asked : Asks (to_create name ∷ []) s.asked t.asked

abbrev pub CreatesFile : List ℕ → Scene → {T : Type 0} → Result T Failed → Scene → Type 0
CreatesFile name s r t = MatchResult r (λ _. Created name s t) (λ _. NotCreated name s t)

-- These bytes were taken.
pub record FileTook (bytes : List ℕ) (s t : Scene) : Type 0 where
  pub well : WentWell s t
  pub mode : t.mode ≡ s.mode
  pub given : t.given ≡ s.given
  pub put : t.put ≡ option_map (λ put. put ++ bytes) s.put
  pub holds : ChangesWritten s.mode s.holds t.holds
  pub asked : t.asked ≡ s.asked

-- No byte was taken; the file has a front of what was put.
pub record FileTookNone (s t : Scene) : Type 0 where
  pub fault : Faulted s t
  pub mode : t.mode ≡ s.mode
  pub given : t.given ≡ s.given
  pub put : t.put ≡ s.put
  pub holds : ChangesWritten s.mode s.holds t.holds
  pub front : PutAndFile s t (λ put file. IsFront file put)
  pub asked : t.asked ≡ s.asked

abbrev pub WritesFile : List ℕ → Scene → Result ℕ Failed → Scene → Type 0
WritesFile from s r t = MatchResult r (λ n. (1 ≤ n) × (n ≤ length from) × FileTook (take n from) s t) (λ _. FileTookNone s t)

-- The file was closed, well or not.
pub record Closed (s t : Scene) : Type 0 where
  pub mode : t.mode ≡ Idle
  pub given : t.given ≡ s.given
  pub put : t.put ≡ s.put
  pub holds : ChangesWritten s.mode s.holds t.holds
  pub asked : t.asked ≡ s.asked

-- The file was closed well: one that was written holds what was put.
pub record ClosedWell (s t : Scene) : Type 0 where
  pub well : WentWell s t
  pub closed : Closed s t
  pub whole : PutAndFile s t (λ put file. file ≡ put)

-- The call failed, and left the desk idle.
pub record ClosedBadly (s t : Scene) : Type 0 where
  pub fault : Faulted s t
  pub closed : Closed s t

abbrev pub ClosesFile : Scene → {T : Type 0} → Result T Failed → Scene → Type 0
ClosesFile s r t = MatchResult r (λ _. ClosedWell s t) (λ _. ClosedBadly s t)
