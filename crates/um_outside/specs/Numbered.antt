-- Calls by their numbers.
use Rattle.std.specs.Prelude.{ℕ, ◌+◌, ◌-◌, ◌^◌, min, Bool, List, nat_eq}
use Rattle.std.specs.List.{list_any}

-- The number of the next call. It stands still at the last number of 64 bits.
abbrev pub next_number : ℕ → ℕ
next_number made = min (made + 1) (2 ^ 64 - 1)

abbrev pub is_among : ℕ → List ℕ → Bool
is_among number numbers = list_any (λ n. nat_eq n number) numbers
