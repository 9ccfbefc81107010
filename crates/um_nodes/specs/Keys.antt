-- The keys of nodes that wait, and which of two comes first.
use Rattle.std.specs.Prelude.{◌≡◌, ◌≢◌, ◌≤◌, pos, ◌*ℤ◌, ◌≤ℤ◌, ◌⊎◌, List, All}
use Rattle.um_num.specs.Numbers.{IsInRange}
use Rattle.um_nodes.specs.declared.open_nodes.Key.{Key}
use Rattle.um_nodes.specs.declared.open_nodes.OpenNode.{OpenNode}

-- y0 is not below 0, and both numbers are in range
pub record IsKey (k : Key) : Type 0 where
  pub y0 : pos 0 ≤ℤ k.y0
  pub y0_in : IsInRange k.y0
  pub value_in : IsInRange k.value

-- each node has such a key
abbrev pub AreKeys : List OpenNode → Type 0
AreKeys nodes = All (λ (w : OpenNode). IsKey w.key) nodes

-- value / y0 of the first key is not above that of the second
pub record IsNotAbove (a b : Key) : Type 0 where
  pub left : a.y0 ≢ pos 0
  pub right : b.y0 ≢ pos 0
  pub cross : (a.value *ℤ b.y0) ≤ℤ (b.value *ℤ a.y0)

-- the first key may come before the second: it has no bound, or both have bounds and its own is not above the other's
abbrev pub Allows : Key → Key → Type 0
Allows a b = (a.y0 ≡ pos 0) ⊎ IsNotAbove a b

-- only the first may come before the second
pub record Leads (a b : Key) : Type 0 where
  pub allows : Allows a b
  pub refuses : ¬ Allows b a

-- each may come before the other
pub record Ties (a b : Key) : Type 0 where
  pub allows : Allows a b
  pub allowed : Allows b a

-- the first comes before the second; where each may, its id is not above the other's
pub record Precedes (a b : Key) : Type 0 where
  pub allows : Allows a b
  pub ties : Allows b a → a.id ≤ b.id
