-- What a sink tells of itself, and what a write on it does.
use Rattle.std.specs.Prelude.{◌≡◌, ℕ, ◌<◌, ◌≤◌, Bool, true, List, ◌++◌, take, length, Option, Result, MatchResult, option_map}
use Rattle.um_outside.specs.declared.Failed.{Failed}

-- `held` is the bytes taken so far, where the sink tells them. The count of faults never falls.
-- The flag `stopped` is set by the first fault.
pub record SinkScene : Type 0 where
  pub held : Option (List ℕ)
  pub faults : ℕ
  pub stopped : Bool

-- These bytes were taken: the count has not fallen, and the flag is as it was.
pub record Took (bytes : List ℕ) (s t : SinkScene) : Type 0 where
  pub held : t.held ≡ option_map (λ held. held ++ bytes) s.held
  pub faults : s.faults ≤ t.faults
  pub stopped : t.stopped ≡ s.stopped

-- No byte was taken: the count rose in this call, and the flag is set.
pub record NotTaken (s t : SinkScene) : Type 0 where
  pub held : t.held ≡ s.held
  pub faults : s.faults < t.faults
  pub stopped : t.stopped ≡ true

-- The first `n` of these bytes were taken, and at least one.
pub record TookFirst (bytes : List ℕ) (n : ℕ) (s t : SinkScene) : Type 0 where
  pub some : 1 ≤ n
  pub within : n ≤ length bytes
  pub took : Took (take n bytes) s t

abbrev pub Writes : List ℕ → SinkScene → Result ℕ Failed → SinkScene → Type 0
Writes from s r t = MatchResult r (λ n. TookFirst from n s t) (λ _. NotTaken s t)

-- A front of these bytes was taken, and then the sink failed.
pub record TookFront (bytes : List ℕ) (s t : SinkScene) : Type 0 where
  pub held : (n : ℕ) × (n ≤ length bytes) × (t.held ≡ option_map (λ held. held ++ take n bytes) s.held)
  pub faults : s.faults < t.faults
  pub stopped : t.stopped ≡ true
