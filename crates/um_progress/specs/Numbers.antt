-- The history of a search: its solved nodes, in the order of their numbers.
use Rattle.std.specs.Prelude.{◌≡◌, ℕ, suc, ◌<◌, List, [], ◌∷◌, ◌++◌, length, slice_get, Option, Some, None}
use Rattle.std.specs.Option.{ForSome}
use Rattle.um_model.specs.declared.tree.Solved.{Solved}
use Rattle.um_tree.specs.Growths.{GrowthValue, node_at}

-- a node that was solved, by its id, with the pivots that it took; W is what else is told of a number
pub record Number (W : Type 0) : Type 0 where
  pub id : ℕ
  pub pivots : ℕ
  pub told : W

-- the node of this id bears this number
abbrev pub Bears : {W : Type 0} → List (Number W) → ℕ → Solved → Type 0
Bears {W} history id s = (place : ℕ) × (n : Number W) × (slice_get history place ≡ Some n) × (n.id ≡ id) × (s ≡ record { number = suc place; pivots = n.pivots })

-- The numbers of the tree are those of the history.
--   inside: each item is of a node that is there
--   on: number k, with its pivots, is on the node of the item at place k - 1
--   only: no other node has a number
pub record IsNumbered (W : Type 0) (g : GrowthValue) (history : List (Number W)) : Type 0 where
  pub inside : (place : ℕ) → ForSome (slice_get history place) (λ (n : Number W). n.id < length g.nodes)
  pub on : (place : ℕ) → ForSome (slice_get history place) (λ (n : Number W). (node_at g n.id).solved ≡ Some (record { number = suc place; pivots = n.pivots }))
  pub only : (id : ℕ) → id < length g.nodes → ForSome (node_at g id).solved (Bears history id)

-- a node of this id got the next number, and the history has one item more, or it got none, and the history stays
abbrev pub IsNext : {W : Type 0} → List (Number W) → ℕ → Option Solved → List (Number W) → Type 0
IsNext history id None after = after ≡ history
IsNext {W} history id (Some s) after = (n : Number W) × (n.id ≡ id) × (s ≡ record { number = suc (length history); pivots = n.pivots }) × (after ≡ history ++ n ∷ [])
