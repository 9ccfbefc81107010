-- What a board that has ended says of the deck.
use Rattle.std.specs.Prelude.{◌≡◌, ℕ, ◌<◌, ℤ, pos, ◌*ℤ◌, ◌≤ℤ◌, [], length, All}
use Rattle.um_model.specs.Values.{DeckValue, ColumnValue, PointValue}
use Rattle.um_multipliers.specs.PlainMultipliers.{MultipliersValue}
use Rattle.um_model.specs.Boxes.{BoxValue, root, ends_of}
use Rattle.um_model.specs.Feasible.{part, AllPlaces, Between, RowHolds, Feasible}
use Rattle.um_model.specs.Objective.{objective}
use Rattle.um_model.specs.LeafValue.{leaf_value, leaf_bound, Empties}
use Rattle.um_model.specs.declared.deck.Kind.TheVariants.{Continuous}
use Rattle.um_model.specs.declared.leaf.Leaf.TheVariants.{Value}
use Rattle.um_lp.specs.States.{State}
use Rattle.um_lp.specs.declared.board.Costs.TheVariants.{Given}
use Rattle.um_lp.specs.Boards.{IsBoard}
use Rattle.um_lp.specs.DualSteps.{IsDualFeasible, IsNext, Ended, NoPoint}
use Rattle.um_duality.specs.Relaxed.{StandsFor}
use Rattle.um_duality.specs.Boxed.{IsBoxed}
use Rattle.um_duality.specs.Readings.{multipliers, vertex, AreFarkas}

-- a board of a deck without arcs, with the ends of the box, dual feasible
pub record IsOnBox (d : DeckValue) (b : BoxValue) (s : State) : Type 0 where
  pub arcs : d.arcs ≡ []
  pub board : IsBoard s
  pub stands : StandsFor d s
  pub boxed : IsBoxed d b s
  pub feasible : IsDualFeasible s

-- the point has a part for each column, satisfies the rows, and each column's value lies within the ends that the box gives it
pub record HoldsOnBox (d : DeckValue) (b : BoxValue) (p : PointValue) : Type 0 where
  pub den : pos 1 ≤ℤ p.den
  pub parts : length p.parts ≡ length d.columns
  pub rows : AllPlaces (RowHolds d p) d.rows
  pub ends : (column : ℕ) → column < length d.columns → Between (ends_of d b column).low (ends_of d b column).high p.den (pos 1000 *ℤ part p.parts column)

-- Where every basic column is within its ends, the vertex satisfies the rows and lies within the ends of the box.
abbrev pub VertexLaw : Type 0
VertexLaw = (d : DeckValue) (b : BoxValue) (s : State) → IsOnBox d b s → IsNext s Ended → HoldsOnBox d b (vertex s)

-- Within the ends of the root box, a point that satisfies the rows is feasible where all columns are continuous and no set is there.
abbrev pub ContinuousLaw : Type 0
ContinuousLaw = (d : DeckValue) (p : PointValue) → d.sets ≡ [] → All (λ (c : ColumnValue). c.kind ≡ Continuous) d.columns → HoldsOnBox d (root d) p → Feasible d p

-- Where the board takes the given costs, the leaf's value under the multipliers has an end, and its bound is the objective of the vertex. This holds of every dual feasible basis: where the run has ended, a feasible point meets the bound.
abbrev pub StrongDualityLaw : Type 0
StrongDualityLaw =
    (d : DeckValue) (b : BoxValue) (s : State) → IsOnBox d b s → s.costs ≡ Given
    → (value : ℤ) × (leaf_value d b (multipliers s) ≡ Value value) × (leaf_bound d (multipliers s).y0 value ≡ objective d (vertex s))

-- Where no column may enter, the multipliers of Farkas empty the box.
abbrev pub FarkasLaw : Type 0
FarkasLaw = (d : DeckValue) (b : BoxValue) (s : State) (row : ℕ) (y : MultipliersValue) → IsOnBox d b s → IsNext s (NoPoint row) → AreFarkas s row y → Empties d b y
