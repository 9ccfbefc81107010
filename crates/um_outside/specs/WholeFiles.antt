-- What reading and writing a whole file does to a desk. Each asks for that one file, once.
use Rattle.std.specs.Prelude.{◌⊎◌, ◌≤◌, ◌≡◌, ℕ, ◌<◌, List, [], ◌∷◌, length, Some, option_map, IfSome, IsSomeAnd}
use Rattle.um_outside.specs.Scenes.{Scene, Idle, to_open, to_create}
use Rattle.um_outside.specs.Desks.{WentWell, Faulted, ChangesOnly, Asks}

-- The file of this name was read to its end and closed; these are its bytes.
pub record ReadWhole (name : List ℕ) (bytes : List ℕ) (s t : Scene) : Type 0 where
  pub well : WentWell s t
  pub mode : t.mode ≡ Idle
  pub given : t.given ≡ option_map (λ _. bytes) s.given
  pub whole : IfSome s.given (λ _. IfSome s.holds (λ files. files name ≡ Some bytes))
  pub put : t.put ≡ s.put
  pub holds : t.holds ≡ s.holds
  pub asked : Asks (to_open name ∷ []) s.asked t.asked

-- More bytes were given than asked for, so the file of this name is longer.
pub record ReadTooMuch (name : List ℕ) (most : ℕ) (s t : Scene) : Type 0 where
  pub well : WentWell s t
  pub given : IfSome t.given (λ given. most < length given)
  pub longer : IfSome s.given (λ _. IfSome s.holds (λ files. IsSomeAnd (files name) (λ bytes. most < length bytes)))
  pub put : t.put ≡ s.put
  pub holds : t.holds ≡ s.holds
  pub asked : Asks (to_open name ∷ []) s.asked t.asked

-- The reading of the file of this name was given up, for want of memory.
pub record ReadGivenUp (name : List ℕ) (s t : Scene) : Type 0 where
  pub well : WentWell s t
  pub put : t.put ≡ s.put
  pub holds : t.holds ≡ s.holds
  pub asked : Asks (to_open name ∷ []) s.asked t.asked

-- No more bytes were given than asked for; where the file was not opened, those of the last one stand.
abbrev pub GivenWithin : ℕ → Scene → Scene → Type 0
GivenWithin most s t = (t.given ≡ s.given) ⊎ IfSome t.given (λ given. length given ≤ most)

-- The outside failed while the file of this name was read.
pub record ReadFaulted (name : List ℕ) (s t : Scene) : Type 0 where
  pub fault : Faulted s t
  pub put : t.put ≡ s.put
  pub holds : t.holds ≡ s.holds
  pub asked : Asks (to_open name ∷ []) s.asked t.asked

-- These bytes were put, and the file of this name was closed with them.
pub record WroteWhole (name : List ℕ) (bytes : List ℕ) (s t : Scene) : Type 0 where
  pub well : WentWell s t
  pub mode : t.mode ≡ Idle
  pub given : t.given ≡ s.given
  pub put : t.put ≡ option_map (λ _. bytes) s.put
  pub holds : ChangesOnly name s.holds t.holds
  pub whole : IfSome t.put (λ _. IfSome t.holds (λ files. files name ≡ Some bytes))
  pub asked : Asks (to_create name ∷ []) s.asked t.asked

-- The outside failed while the file of this name was written.
pub record WriteFaulted (name : List ℕ) (s t : Scene) : Type 0 where
  pub fault : Faulted s t
  pub given : t.given ≡ s.given
  pub holds : ChangesOnly name s.holds t.holds
  pub asked : Asks (to_create name ∷ []) s.asked t.asked
