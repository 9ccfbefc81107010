-- Small numbers, and lines of whole numbers in lowest terms: a line is whole numbers over one denominator.
use Rattle.std.specs.Prelude.{◌≡◌, ℕ, ◌<◌, ◌^◌, ℤ, pos, List, length, slice_index_or, unsigned_abs}
use Rattle.std.specs.Int.{◌∣◌}
use Rattle.um_laws.specs.Rational.{Rational}
use Rattle.um_laws.proofs.RationalBounds.{Below}

-- both parts are below 2^62 in size
abbrev pub IsSmall : Rational → Type 0
IsSmall x = Below (2 ^ 62) x

-- both parts are in range
abbrev pub Fits : Rational → Type 0
Fits x = Below (2 ^ 127) x

-- below 2^62 in size
abbrev pub IsShort : ℤ → Type 0
IsShort z = unsigned_abs z < 2 ^ 62

abbrev pub AreShort : List ℤ → Type 0
AreShort nums = (j : ℕ) → j < length nums → IsShort (slice_index_or nums j (pos 0))

-- nothing but 1 divides the denominator and all whole numbers above it
abbrev pub AreLowest : ℤ → List ℤ → Type 0
AreLowest den nums = (d : ℕ) → d ∣ unsigned_abs den → ((j : ℕ) → j < length nums → d ∣ unsigned_abs (slice_index_or nums j (pos 0))) → d ≡ 1
