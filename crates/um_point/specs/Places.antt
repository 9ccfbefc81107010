-- A property of one place of a list.
use Rattle.std.specs.Prelude.{ℕ, List, slice_index_or}

-- P of this place and the item there
abbrev pub HoldsAt : {X : Type 0} → (ℕ → X → Type 0) → List X → ℕ → Type 0
HoldsAt {X} P xs place = (default : X) → P place (slice_index_or xs place default)
