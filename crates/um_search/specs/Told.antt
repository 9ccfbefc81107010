-- What an answer tells of the search that it came from.
use Rattle.std.specs.Prelude.{◌≡◌, ℕ, suc, ◌+◌, ◌<◌, ◌≤◌, ℤ, pos, ◌⊎◌, List, [], ◌∷◌, ◌++◌, length, Option, Some, None, IfSome, IsSome, IsNone}
use Rattle.um_laws.specs.Rational.{Rational}
use Rattle.um_multipliers.specs.PlainMultipliers.{MultipliersValue}
use Rattle.um_model.specs.Values.{DeckValue, PointValue}
use Rattle.um_model.specs.Boxes.{BoxValue}
use Rattle.um_model.specs.Feasible.{Feasible}
use Rattle.um_model.specs.LeafValue.{Closes}
use Rattle.um_model.specs.AnswerValues.{AnswerValue, OpenLeaf}
use Rattle.um_model.specs.declared.answer.Why.{Why}
use Rattle.um_model.specs.declared.answer.Why.TheVariants as why
use Rattle.um_model.specs.declared.answer.AnswerKind.{AnswerKind}
use Rattle.um_model.specs.declared.answer.AnswerKind.TheVariants as kind
use Rattle.um_lp.specs.States.{State}
use Rattle.um_dual.specs.Methods.{IsDue}
use Rattle.um_relax.specs.Runs.{IsRun}
use Rattle.um_ray.specs.Starts.{IsOutOfPivots}
use Rattle.um_opening.specs.Numbers.{IsNumberRun}
use Rattle.um_tree.specs.Growths.{GrowthValue, IsGrowth, IsTold, node_at, what_at, origin_at}
use Rattle.um_cover.specs.Sites.{box_at}
use Rattle.um_progress.specs.declared.incumbent.Incumbent.{Incumbent}
use Rattle.um_progress.specs.Waits.{IsOpenLeaf, IsFresh}
use Rattle.um_progress.specs.Numbers.{Number, IsNumbered}
use Rattle.um_progress.specs.Incumbents.{objective_of, point_of}
use Rattle.um_progress.specs.Lineage.{IsLineage}
use Rattle.um_turns.specs.Turns.{Turn, Reached, Halted, IsNoGrid}
use Rattle.um_turns.specs.Histories.{History, IsHanded, IsHistory, AreFinished, IsBest, pivots_of, ray_of}
use Rattle.um_turns.specs.NextTurns.{IsNextTurn}
use Rattle.um_turns.specs.ShownRays.{HasShown}
use Rattle.um_turns.specs.UnnumberedNodes.{AreUnnumbered}
use Rattle.um_turns.specs.NeededTurns.{AreNeeded}
use Rattle.um_search.specs.declared.budget.Budget.{Budget}

-- ---- how the search ended

-- the search stopped for this cause in its last turn, and in none before
pub record IsHaltedLast (history : History) (cause : Why) : Type 0 where
  pub before : History
  pub last : Number Turn
  pub own : Option MultipliersValue
  pub history_is : history ≡ before ++ last ∷ []
  pub finished : AreFinished before
  pub end : last.told.end ≡ Halted cause own

-- It ended because no node waits, or at its budget of nodes between two turns, or in its last turn.
abbrev pub IsEndedBy : History → Option Why → Type 0
IsEndedBy history None = AreFinished history
IsEndedBy history (Some why.Nodes) = AreFinished history
IsEndedBy history (Some cause) = IsHaltedLast history cause

-- the multipliers do not close a node in the box at this objective, if there is one
abbrev pub IsOpenStill : DeckValue → Option Rational → BoxValue → MultipliersValue → Type 0
IsOpenStill d best b y = IfSome best (λ v. ¬ Closes d b y v (pos 0))

-- all nodes of the budget are solved, and none of them is an open leaf; the one in hand is one,
-- without a number, and its own multipliers do not close it at the best objective
pub record HasSpentNodes (d : DeckValue) (budget : Budget) (best : Option Rational)
    (g : GrowthValue) (history : History) : Type 0 where
  pub all : length history ≡ budget.nodes
  pub unsolved : (id : ℕ) → id < length g.nodes → IsOpenLeaf (what_at g id)
      → (node_at g id).solved ≡ None
  pub hand : ℕ
  pub fresh : IsFresh g hand
  pub own : MultipliersValue
  pub own_is : what_at g hand ≡ OpenLeaf own
  pub open_still : IsOpenStill d best (box_at d g hand) own

-- a step is due in the run on the box of the node of this number, or in the start problem with
-- which number 1 opens the board
abbrev pub IsStepDue : DeckValue → BoxValue → Number Turn → ℕ → Type 0
IsStepDue d b n number =
    IsNumberRun d number n.told.before n.pivots n.told.ray
    (λ begun early steps. (state : State) × IsRun d b begun steps state × IsDue state)
    ⊎ ((number ≡ 1) × (state : State) × IsOutOfPivots d n.told.before n.pivots 0 state)

-- all pivots of the budget are made, and a step is due in the last turn
pub record HasSpentPivots (d : DeckValue) (budget : Budget) (g : GrowthValue) (history : History)
    : Type 0 where
  pub all : pivots_of history ≡ budget.pivots
  pub before : History
  pub last : Number Turn
  pub history_is : history ≡ before ++ last ∷ []
  pub due : IsStepDue d (box_at d g last.id) last (suc (length before))

-- ---- the open leaves

-- where the node is an open leaf without a number, it has the multipliers that it was handed: 1 and
-- none for the root, else those of the vertex of its parent
abbrev pub IsHandedLeaf : GrowthValue → History → ℕ → Type 0
IsHandedLeaf g history id =
    (y : MultipliersValue) → node_at g id ≡ record { solved = None; what = OpenLeaf y }
    → IsHanded history (origin_at g id) y

-- and so of all nodes. An open leaf with a number is that of the turn in which the search stopped,
-- and has its own multipliers where they were read, else those that it was handed, as the history
-- says
abbrev pub OpenLeavesAreHanded : GrowthValue → History → Type 0
OpenLeavesAreHanded g history = (id : ℕ) → id < length g.nodes → IsHandedLeaf g history id

-- ---- the open leaves of a deck with a ray

-- the multipliers are 1 and none
abbrev pub IsOneAndNone : MultipliersValue → Type 0
IsOneAndNone y = y ≡ record { y0 = pos 1; rows = [] }

-- and so are those of each open leaf, with a number or without one
abbrev pub HaveOneAndNone : GrowthValue → Type 0
HaveOneAndNone g =
    (id : ℕ) (y : MultipliersValue) → id < length g.nodes → what_at g id ≡ OpenLeaf y
    → IsOneAndNone y

-- ---- the best point

-- the point and the objective are those of the first of least objective among the feasible vertices
-- of the turns
pub record TellsBest (d : DeckValue) (history : History) (a : AnswerValue) : Type 0 where
  pub incumbent : Option Incumbent
  pub best : IsBest d history incumbent
  pub point : a.point ≡ point_of incumbent
  pub objective : a.objective ≡ objective_of incumbent

-- ---- the answer

-- The answer tells a search within this budget: its tree, the turns of its nodes in the order of
-- their numbers on one board, how it ended, and the best point of its turns.
pub record TellsSearch (d : DeckValue) (budget : Budget) (a : AnswerValue) : Type 0 where
  pub tolerance : a.tolerance ≡ pos 0
  pub ray : a.ray ≡ None
  pub growth : GrowthValue
  pub is : IsGrowth growth
  -- the answer's tree tells the nodes of the growth in preorder
  pub tree : IsTold growth a.tree
  pub start : State
  pub history : History
  -- each turn begins where the one before ended, its run is on the box of its node, and the node
  -- became what its end asks for
  pub told : IsHistory d start budget.pivots growth history
  -- the numbers in the tree are those of the turns
  pub numbered : IsNumbered Turn growth history
  -- the open leaves without a number have the multipliers that they were handed
  pub handed : OpenLeavesAreHanded growth history
  -- each node without a number is void, or open, or closed with the multipliers that it was handed
  pub unnumbered : AreUnnumbered growth history
  -- each split has a number, and numbers rise from parents to children
  pub lineage : IsLineage growth
  -- the best point so far closed no node that was solved, and none that was split
  pub needed : AreNeeded d growth history
  pub best : TellsBest d history a
  -- why it ended
  pub ended : IsEndedBy history a.why
  -- it did not end at a vertex that asks for no branch
  pub no_grid : IfSome a.why IsNoGrid
  -- within the budget
  pub nodes : length history ≤ budget.nodes
  pub pivots : pivots_of history ≤ budget.pivots
  -- where nodes were wanting, all are solved and one more is in hand, which the best point does not
  -- close
  pub spent_nodes : a.why ≡ Some why.Nodes → HasSpentNodes d budget a.objective growth history
  -- where pivots were wanting, all were made and one more step is due
  pub spent_pivots : a.why ≡ Some why.Pivots → HasSpentPivots d budget growth history
  -- where the first turn has shown a ray there is no point, as a feasible one makes the answer
  -- Unbounded
  pub no_point : IsSome (ray_of history) → IsNone a.point
  -- there each open leaf has the multipliers 1 and none, as the board takes no costs
  pub no_costs : IsSome (ray_of history) → HaveOneAndNone growth
  -- and there is no bound, as no end of a box stops the ray, along which the costs fall
  pub no_bound : IsSome (ray_of history) → IsNone a.bound

-- An unbounded answer tells the search that it came from, within this budget, too, but for the
-- tree, which it has not: the turns of its nodes on one board, of which the first has shown the
-- ray, up to the first that ended at a feasible vertex.
pub record TellsUnbounded (d : DeckValue) (budget : Budget) (a : AnswerValue) : Type 0 where
  pub tolerance : a.tolerance ≡ pos 0
  -- the tree that grew up to the last turn
  pub growth : GrowthValue
  pub is : IsGrowth growth
  pub start : State
  pub history : History
  -- the next four: of the turns before the last one, and of the tree, as of another answer
  pub told : IsHistory d start budget.pivots growth history
  pub numbered : IsNumbered Turn growth history
  pub unnumbered : AreUnnumbered growth history
  pub lineage : IsLineage growth
  -- none of these turns stopped the search
  pub finished : AreFinished history
  -- none of them ended at a feasible vertex
  pub none_before : IsBest d history None
  pub last : Number Turn
  -- the node of the last turn is an open leaf of the tree, without a number there
  pub fresh : IsFresh growth last.id
  -- the last turn is the next one: it began where the turn before ended, with the pivots that were
  -- left, and its run is on the box of its node
  pub next : IsNextTurn d start budget.pivots growth history last.id last
  pub point : PointValue
  pub own : MultipliersValue
  -- it ended at this point, with these multipliers
  pub end : last.told.end ≡ Reached point own
  -- the point is feasible, and is that of the answer
  pub feasible : Feasible d point
  pub point_is : a.point ≡ Some point
  pub ray : List ℤ
  pub ray_is : a.ray ≡ Some ray
  -- the ray is the one that the first turn has shown
  pub first : ray_of (history ++ last ∷ []) ≡ Some ray
  -- the start problem has shown it on the board with which the search began
  pub shown : HasShown d start budget.pivots ray
  -- with the last turn, too, within the budget
  pub nodes : length history < budget.nodes
  pub pivots : pivots_of history + last.pivots ≤ budget.pivots

-- what an answer of this kind tells
abbrev pub TellsOf : AnswerKind → DeckValue → Budget → AnswerValue → Type 0
TellsOf kind.Optimal d budget a = TellsSearch d budget a
TellsOf kind.Infeasible d budget a = TellsSearch d budget a
TellsOf kind.Unbounded d budget a = TellsUnbounded d budget a
TellsOf kind.Limit d budget a = TellsSearch d budget a
TellsOf kind.Overflow d budget a = TellsSearch d budget a

-- an answer tells the search that it came from; an unbounded one up to its feasible point
abbrev pub TellsAnswer : DeckValue → Budget → AnswerValue → Type 0
TellsAnswer d budget a = TellsOf a.kind d budget a
