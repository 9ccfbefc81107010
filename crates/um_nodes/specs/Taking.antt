-- Taking the node that comes first.
use Rattle.std.specs.Prelude.{◌≡◌, ℕ, ◌<◌, List, ◌∷◌, ◌++◌, All, slice_index_or}
use Rattle.um_nodes.specs.Keys.{Precedes}
use Rattle.um_nodes.specs.declared.open_nodes.OpenNode.{OpenNode}

-- an entry of the list leaves, the others stay in their order, and it comes before each of them
pub record IsTaken (before : List OpenNode) (entry : OpenNode) (after : List OpenNode) : Type 0 where
  pub front : List OpenNode
  pub behind : List OpenNode
  pub before_is : before ≡ front ++ entry ∷ behind
  pub after_is : after ≡ front ++ behind
  pub first : All (λ (v : OpenNode). Precedes entry.key v.key) after

-- of the nodes before a place the one at `first` comes first
pub record IsFirstBelow (nodes : List OpenNode) (place first : ℕ) : Type 0 where
  pub inside : first < place
  pub before : (d : OpenNode) (k : ℕ) → k < place → Precedes (slice_index_or nodes first d).key (slice_index_or nodes k d).key
