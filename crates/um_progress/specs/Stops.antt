-- A search that stopped early: its open nodes get their multipliers, one after the other.
use Rattle.std.specs.Prelude.{◌≡◌, ℕ, ◌<◌, ℤ, Bool, true, false, List, [], ◌∷◌, length, map, Option, Some, None, IfSome, IsSomeAnd}
use Rattle.um_laws.specs.Rational.{Rational}
use Rattle.um_model.specs.Values.{DeckValue}
use Rattle.um_model.specs.Accepted.{IsAtMost}
use Rattle.um_tree.specs.Growths.{GrowthValue, IsGrowth, IsAmong, AreDistinct}
use Rattle.um_cover.specs.Nodes.{NodesAre, bounds_by}
use Rattle.um_nodes.specs.declared.open_nodes.OpenNode.{OpenNode}
use Rattle.um_progress.specs.declared.incumbent.Incumbent.{Incumbent}
use Rattle.um_progress.specs.Waits.{Every, IsFresh, WaitsIn, id_of}
use Rattle.um_progress.specs.Numbers.{Number, IsNumbered}
use Rattle.um_progress.specs.Searches.{IsIncumbent, IsLesser}
use Rattle.um_progress.specs.Incumbents.{objective_of}

-- what is known of the bounds covers this one: that it is missing is known, or it is not below the least
abbrev pub Covers : Bool → Option Rational → Option Rational → Type 0
Covers endless least None = endless ≡ true
Covers endless least (Some y) = IsSomeAnd least (λ x. IsAtMost x y)

-- a node that is none of these ids has this bound, or none
abbrev pub IsBoundOfOne : DeckValue → GrowthValue → List ℕ → Option Rational → Type 0
IsBoundOfOne d g ids bound = (id : ℕ) × (id < length g.nodes) × ¬ IsAmong id ids × (bounds_by d g id ≡ bound ∷ [])

-- the bounds of all nodes but these ids: one of them is missing exactly where `endless` says so, and the least of the others is `least`
pub record IsCounted (d : DeckValue) (g : GrowthValue) (ids : List ℕ) (endless : Bool) (least : Option Rational) : Type 0 where
  pub none : endless ≡ true → IsBoundOfOne d g ids None
  pub some : IfSome least (λ x. IsBoundOfOne d g ids (Some x))
  pub each : (id : ℕ) → id < length g.nodes → ¬ IsAmong id ids → (bound : Option Rational) → bounds_by d g id ≡ bound ∷ [] → Covers endless least bound

-- what is known of the bounds with one more
abbrev pub Counts : Bool → Option Rational → Option Rational → Bool → Option Rational → Type 0
Counts endless least None endless' least' = (endless' ≡ true) × (least' ≡ least)
Counts endless least (Some x) endless' least' = (endless' ≡ endless) × IsLesser least x least'

-- A search that stopped, in which the nodes of these ids have not got their multipliers yet.
--   growth, nodes, best, numbered: as of a search
--   distinct: no id is there twice
--   fresh: these nodes stand open in the tree, without a number
--   counted: the bounds of all other nodes
pub record IsDraining (W : Type 0) (d : DeckValue) (tolerance : ℤ) (history : List (Number W)) (g : GrowthValue) (ids : List ℕ) (incumbent : Option Incumbent) (endless : Bool) (least : Option Rational) : Type 0 where
  pub growth : IsGrowth g
  pub nodes : NodesAre d (objective_of incumbent) tolerance g
  pub best : IfSome incumbent (IsIncumbent d)
  pub distinct : AreDistinct ids
  pub fresh : Every (IsFresh g) ids
  pub counted : IsCounted d g ids endless least
  pub numbered : IsNumbered W g history

-- the same, where these entries have not got their multipliers yet
pub record IsStopping (W : Type 0) (d : DeckValue) (tolerance : ℤ) (history : List (Number W)) (g : GrowthValue) (waiting : List OpenNode) (incumbent : Option Incumbent) (endless : Bool) (least : Option Rational) : Type 0 where
  pub draining : IsDraining W d tolerance history g (map id_of waiting) incumbent endless least
  pub waits : Every (WaitsIn d g) waiting

-- the bound of the answer: none where one is missing
abbrev pub bound_of : Bool → Option Rational → Option Rational
bound_of true least = None
bound_of false least = least
