-- The last member whose weight is at most an average.
use Rattle.std.specs.Prelude.{ℕ, ◌<◌, ℤ, ◌*ℤ◌, ◌≤ℤ◌, ◌<ℤ◌, List, length, map}
use Rattle.um_model.specs.Feasible.{part}
use Rattle.um_model.specs.declared.deck.Member.{Member}

-- the weight of the member at a position
abbrev pub weight_at : List Member → ℕ → ℤ
weight_at members position = part (map (λ (m : Member). m.weight) members) position

-- the last position whose weight is at most weighted / total, for a total above 0: the total stands on the other side
pub record IsLastReached (members : List Member) (weighted total : ℤ) (position : ℕ) : Type 0 where
  pub inside : position < length members
  pub at_most : (weight_at members position *ℤ total) ≤ℤ weighted
  pub behind : (later : ℕ) → position < later → later < length members → weighted <ℤ (weight_at members later *ℤ total)
