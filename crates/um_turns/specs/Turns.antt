-- How a node was solved: one turn of a search on its one board. The first turn opens the board.
use Rattle.std.specs.Prelude.{◌≡◌, ℕ, ◌-◌, ℤ, ◌⊎◌, List, Option, Some, None}
use Rattle.um_multipliers.specs.PlainMultipliers.{MultipliersValue}
use Rattle.um_model.specs.Values.{DeckValue, PointValue}
use Rattle.um_model.specs.AnswerValues.{WhatValue, Split, Bounded, Empty, OpenLeaf}
use Rattle.um_model.specs.Boxes.{BoxValue}
use Rattle.um_model.specs.declared.answer.Why.{Why}
use Rattle.um_model.specs.declared.answer.Why.TheVariants as why
use Rattle.um_lp.specs.States.{State}
use Rattle.um_solving.specs.Solvings.{AtVertex, WithoutPoint, StoppedBy}
use Rattle.um_opening.specs.Numbers.{IsNumberRun, IsStoppedFirst}
use Rattle.um_split.specs.Branchings.{IsBranchOf, AsksForNone}

-- where the run of a node ended: at a vertex with the multipliers of its prices, without a point
-- with multipliers of Farkas, or early for this cause, with the node's own multipliers where they
-- were read
pub data TurnEnd : Type 0 where
  Reached : PointValue → MultipliersValue → TurnEnd
  Emptied : MultipliersValue → TurnEnd
  Halted : Why → Option MultipliersValue → TurnEnd

-- the states of the board at its beginning and at its end, how many pivots were left at its
-- beginning, the ray that its opening has shown, the multipliers that the node was handed, and how
-- the run ended
pub record Turn : Type 0 where
  pub before : State
  pub after : State
  pub left : ℕ
  pub ray : Option (List ℤ)
  pub handed : MultipliersValue
  pub end : TurnEnd

-- a vertex is reached that asks for no branch, and the node is not closed there; its own
-- multipliers are those of the vertex
pub record AtGrid (d : DeckValue) (b : BoxValue) (begun after : State) (steps number told : ℕ)
    (own : Option MultipliersValue) : Type 0 where
  pub same : told ≡ number
  pub point : PointValue
  pub own_is : MultipliersValue
  pub vertex : AtVertex d b begun steps after point own_is
  pub none : AsksForNone d point
  pub are : own ≡ Some own_is

-- the cause for which a search stopped in the run on the box of a node
abbrev pub RunStopped : DeckValue → BoxValue → State → State → ℕ → ℕ → ℕ → ℕ → Why
    → Option MultipliersValue → Type 0
RunStopped d b begun after early steps left number (why.Grid told) own =
    AtGrid d b begun after steps number told own
RunStopped d b begun after early steps left number other own =
    StoppedBy d b begun early steps left number other own

-- the search stopped in the run on the node's box
abbrev pub IsStoppedRun : DeckValue → BoxValue → Turn → ℕ → ℕ → Why → Option MultipliersValue
    → Type 0
IsStoppedRun d b t pivots number cause own =
    IsNumberRun d number t.before pivots t.ray (λ begun early steps.
    RunStopped d b begun t.after early steps (t.left - early) number cause own)

-- the search stopped at its opening, before the node's box was put on the board; no multipliers are
-- read
pub record IsStoppedOpening (d : DeckValue) (t : Turn) (pivots number : ℕ) (cause : Why)
    (own : Option MultipliersValue) : Type 0 where
  pub stopped : IsStoppedFirst d number t.before pivots t.left cause t.after
  pub unread : own ≡ None
  pub no_ray : t.ray ≡ None

-- the cause for which a search stopped in this turn
abbrev pub HaltHolds : DeckValue → BoxValue → Turn → ℕ → ℕ → Why → Option MultipliersValue → Type 0
HaltHolds d b t pivots number cause own =
    IsStoppedRun d b t pivots number cause own ⊎ IsStoppedOpening d t pivots number cause own

-- the turn of this number, with so many pivots, on the box of its node
abbrev pub EndHolds : DeckValue → BoxValue → Turn → ℕ → ℕ → TurnEnd → Type 0
EndHolds d b t pivots number (Reached p y) =
    IsNumberRun d number t.before pivots t.ray
    (λ begun early steps. AtVertex d b begun steps t.after p y)
EndHolds d b t pivots number (Emptied y) =
    IsNumberRun d number t.before pivots t.ray
    (λ begun early steps. WithoutPoint d b begun steps t.after y)
EndHolds d b t pivots number (Halted cause own) = HaltHolds d b t pivots number cause own

-- the multipliers of an open leaf: its own where they were read, else those that it was handed
abbrev pub kept_multipliers : MultipliersValue → Option MultipliersValue → MultipliersValue
kept_multipliers handed None = handed
kept_multipliers handed (Some y) = y

-- What became of a node whose run ended so. At a vertex it was closed with the multipliers of the
-- vertex, or branched as the vertex asks; without a point it is an empty leaf; where the search
-- stopped it is an open leaf
abbrev pub Became : DeckValue → MultipliersValue → TurnEnd → WhatValue → Type 0
Became d handed (Reached p y) (Split branch) = IsBranchOf d p branch
Became d handed (Reached p y) (Bounded z) = z ≡ y
Became d handed (Reached p y) other = ⊥
Became d handed (Emptied y) (Empty z) = z ≡ y
Became d handed (Emptied y) other = ⊥
Became d handed (Halted cause own) (OpenLeaf z) = z ≡ kept_multipliers handed own
Became d handed (Halted cause own) other = ⊥

-- the search did not stop in this turn
abbrev pub IsFinished : TurnEnd → Type 0
IsFinished (Reached p y) = Unit {0}
IsFinished (Emptied y) = Unit {0}
IsFinished (Halted cause own) = ⊥

-- the cause is no limit of the grid
abbrev pub IsNoGrid : Why → Type 0
IsNoGrid (why.Grid number) = ⊥
IsNoGrid other = Unit {0}
