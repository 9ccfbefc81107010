-- What each act of a search keeps of its history.
use Rattle.std.specs.Prelude.{◌≡◌, ◌≢◌, ℕ, suc, ◌+◌, ◌-◌, ◌<◌, ℤ, pos, Bool, List, [], ◌∷◌, ◌++◌, length, Option, Some, None, IfSome}
use Rattle.um_laws.specs.Rational.{Rational}
use Rattle.um_num.specs.Fractions.{IsBelow}
use Rattle.um_multipliers.specs.PlainMultipliers.{MultipliersValue, plain_multipliers}
use Rattle.um_model.specs.Values.{DeckValue, PointValue, plain_point}
use Rattle.um_model.specs.WellFormed.{IsDeck}
use Rattle.um_model.specs.Feasible.{Feasible}
use Rattle.um_model.specs.Objective.{objective}
use Rattle.um_model.specs.Boxes.{BoxValue}
use Rattle.um_model.specs.Branches.{left, right}
use Rattle.um_model.specs.LeafValue.{Closes}
use Rattle.um_model.specs.Accepted.{IsAtMost}
use Rattle.um_model.specs.AnswerValues.{NodeValue}
use Rattle.um_model.specs.declared.branch.Branch.{Branch}
use Rattle.um_model.specs.declared.tree.Solved.{Solved}
use Rattle.um_lp.specs.States.{State}
use Rattle.um_lp.specs.Boards.{IsBoard, IsStart}
use Rattle.um_lp.specs.declared.board.Costs.TheVariants.{Given}
use Rattle.um_duality.specs.Laws.{HoldsOnBox}
use Rattle.um_duality.specs.Relaxed.{deck_frame}
use Rattle.um_solving.specs.Laws.{VertexSays}
use Rattle.um_opening.specs.Numbers.{MayGoOn}
use Rattle.um_solving.specs.RootBoxes.{IsWithinRoot}
use Rattle.um_split.specs.Branchings.{IsBranchOf, AsksForNone}
use Rattle.um_split.specs.Laws.{IsPointOf}
use Rattle.um_split.specs.SemiLows.{HasSemiLows}
use Rattle.um_tree.specs.Growths.{GrowthValue, IsGrowth, origin_at, parted, settled}
use Rattle.um_cover.specs.Descents.{SplitsFit}
use Rattle.um_cover.specs.Sites.{box_at}
use Rattle.um_nodes.specs.Taking.{IsTaken}
use Rattle.um_nodes.specs.declared.open_nodes.OpenNode.{OpenNode}
use Rattle.um_progress.specs.declared.incumbent.Incumbent.{Incumbent}
use Rattle.um_progress.specs.Numbers.{Number, IsNumbered}
use Rattle.um_progress.specs.Searches.{IsSearch, ChildIs}
use Rattle.um_progress.specs.Incumbents.{objective_of}
use Rattle.um_progress.specs.Stops.{IsStopping}
use Rattle.um_progress.specs.Ends.{rooted}
use Rattle.um_turns.specs.Turns.{Turn, Reached, Became, IsFinished}
use Rattle.um_turns.specs.Histories.{History, IsHistory, IsHanded, AreHanded, AreFinished, IsBest, AreChained, state_behind, left_behind, pivots_of, ray_of}
use Rattle.um_turns.specs.ShownRays.{HasShown}
use Rattle.um_turns.specs.NextTurns.{IsNextTurn, AreUnder, IsNoBetter}

-- ---- the acts

-- The root alone, which waits under 1 and none, has an empty history, on a board that starts; there
-- is no best point.
abbrev pub BeginningHistoryLaw : Type 0
BeginningHistoryLaw =
    (d : DeckValue) (start : State) (most : ℕ) (y : MultipliersValue) (w : OpenNode)
    → IsStart (deck_frame d) start → IsBoard start → w.node ≡ 0
    → plain_multipliers w.y ≡ record { y0 = pos 1; rows = [] }
    → IsHistory d start most (rooted y) [] × AreHanded (rooted y) [] (w ∷ []) × IsBest d [] None

-- What waits has the multipliers that it was handed after one was taken, and that one has them too.
abbrev pub TakingHistoryLaw : Type 0
TakingHistoryLaw =
    (g : GrowthValue) (history : History) (before after : List OpenNode) (w : OpenNode)
    → IsTaken before w after → AreHanded g history before → AreHanded g history after
    × IsHanded history (origin_at g w.node) (plain_multipliers w.y)

-- The node in hand becomes another one without a number.
abbrev pub SettlingHistoryLaw : Type 0
SettlingHistoryLaw =
    (d : DeckValue) (t : ℤ) (start : State) (most : ℕ) (history : History) (id : ℕ)
    (g : GrowthValue) (ws : List OpenNode) (incumbent : Option Incumbent) (least : Option Rational)
    (node : NodeValue)
    → IsSearch Turn d t history (Some id) g ws incumbent least → IsHistory d start most g history
    → AreHanded g history ws
    → IsHistory d start most (settled g id node) history × AreHanded (settled g id node) history ws

-- The node in hand becomes another one with the next number, as its turn says.
abbrev pub TurningHistoryLaw : Type 0
TurningHistoryLaw =
    (d : DeckValue) (t : ℤ) (start : State) (most : ℕ) (history : History) (id : ℕ)
    (g : GrowthValue) (ws : List OpenNode) (incumbent : Option Incumbent) (least : Option Rational)
    (node : NodeValue) (n : Number Turn)
    → IsSearch Turn d t history (Some id) g ws incumbent least → IsHistory d start most g history
    → AreHanded g history ws → IsNextTurn d start most g history id n
    → Became d n.told.handed n.told.end node.what
    → IsHistory d start most (settled g id node) (history ++ n ∷ [])
    × AreHanded (settled g id node) (history ++ n ∷ []) ws

-- The node in hand becomes a split with the next number, by the branch that its vertex asks for,
-- and its open children wait under the multipliers of the vertex.
abbrev pub PartingHistoryLaw : Type 0
PartingHistoryLaw =
    (d : DeckValue) (t : ℤ) (start : State) (most : ℕ) (history : History) (id : ℕ)
    (g : GrowthValue) (ws : List OpenNode) (incumbent : Option Incumbent) (least : Option Rational)
    (n : Number Turn) (p : PointValue) (y : MultipliersValue) (solved : Option Solved)
    (branch : Branch) (l r : NodeValue) (more_left more_right : List OpenNode)
    → IsSearch Turn d t history (Some id) g ws incumbent least → IsHistory d start most g history
    → AreHanded g history ws → IsNextTurn d start most g history id n → n.told.end ≡ Reached p y
    → IsBranchOf d p branch
    → ChildIs d (objective_of incumbent) t (left d (box_at d g id) branch) (length g.nodes) l
    more_left → AreUnder y more_left
    → ChildIs d (objective_of incumbent) t (right d (box_at d g id) branch) (suc (length g.nodes)) r
    more_right → AreUnder y more_right
    → IsHistory d start most (parted g id solved branch l r) (history ++ n ∷ [])
    × AreHanded (parted g id solved branch l r) (history ++ n ∷ [])
    ((ws ++ more_left) ++ more_right)

-- The last entry of a search that stopped becomes another node without a number.
abbrev pub DrainingHistoryLaw : Type 0
DrainingHistoryLaw =
    (d : DeckValue) (t : ℤ) (start : State) (most : ℕ) (history : History) (g : GrowthValue)
    (ws : List OpenNode) (w : OpenNode) (incumbent : Option Incumbent) (endless : Bool)
    (least : Option Rational) (node : NodeValue)
    → IsStopping Turn d t history g (ws ++ w ∷ []) incumbent endless least
    → IsHistory d start most g history → AreHanded g history (ws ++ w ∷ [])
    → IsHistory d start most (settled g w.node node) history
    × AreHanded (settled g w.node node) history ws

-- ---- behind a turn

-- Behind one turn more the board is in the state in which that ended, its pivots are used, and no
-- turn stopped the search if that did not.
abbrev pub BehindTurnLaw : Type 0
BehindTurnLaw =
    (start : State) (most : ℕ) (history : History) (n : Number Turn)
    → (state_behind start (history ++ n ∷ []) ≡ n.told.after)
    × (left_behind most (history ++ n ∷ []) ≡ left_behind most history - n.pivots)
    × (AreFinished history → IsFinished n.told.end → AreFinished (history ++ n ∷ []))

-- The pivots that are left and those of all turns are as many as there were.
abbrev pub PivotsLaw : Type 0
PivotsLaw =
    (start : State) (most : ℕ) (history : History) → AreChained start most history
    → left_behind most history + pivots_of history ≡ most

-- ---- the best point

-- A turn with no better vertex leaves the best point.
abbrev pub StillBestLaw : Type 0
StillBestLaw =
    (d : DeckValue) (history : History) (best : Option Incumbent) (n : Number Turn)
    → IsNoBetter d best n.told.end → IsBest d history best → IsBest d (history ++ n ∷ []) best

-- A feasible vertex with a lower objective is the best point.
abbrev pub NewBestLaw : Type 0
NewBestLaw =
    (d : DeckValue) (history : History) (old : Option Incumbent) (new : Incumbent) (n : Number Turn)
    (y : MultipliersValue)
    → n.told.end ≡ Reached (plain_point new.point) y → Feasible d (plain_point new.point)
    → new.objective ≡ objective d (plain_point new.point)
    → IfSome (objective_of old) (λ v. ¬ IsAtMost v new.objective)
    → IsBest d history old → IsBest d (history ++ n ∷ []) (Some new)

-- The order of two numbers, as fractions are compared and as the best point says it.
abbrev pub OrderLaw : Type 0
OrderLaw = (x y : Rational) → (IsBelow x y → ¬ IsAtMost y x) × (¬ IsBelow x y → IsAtMost y x)

-- ---- what a search goes on with

-- Where each turn is finished, the next number may be solved on the board behind them.
abbrev pub GoingOnLaw : Type 0
GoingOnLaw =
    (d : DeckValue) (start : State) (most : ℕ) (g : GrowthValue) (history : History) → IsDeck d
    → d.arcs ≡ [] → IsGrowth g → SplitsFit d g → IsNumbered Turn g history
    → IsHistory d start most g history → AreFinished history
    → MayGoOn d (suc (length history)) (state_behind start history)

-- Where no turn has shown a ray and there is one, the board behind them takes the given costs.
abbrev pub GoingCostsLaw : Type 0
GoingCostsLaw =
    (d : DeckValue) (start : State) (most : ℕ) (g : GrowthValue) (history : History) → IsDeck d
    → d.arcs ≡ [] → IsGrowth g → SplitsFit d g → IsNumbered Turn g history
    → IsHistory d start most g history → AreFinished history
    → ray_of history ≡ None → history ≢ [] → (state_behind start history).costs ≡ Given

-- The ray of a history with finished turns was shown by the start problem on the board that starts.
abbrev pub ShownLaw : Type 0
ShownLaw =
    (d : DeckValue) (start : State) (most : ℕ) (g : GrowthValue) (history : History) (ray : List ℤ)
    → IsHistory d start most g history → AreFinished history → ray_of history ≡ Some ray
    → HasShown d start most ray

-- The multipliers of a vertex close its node at each value that is at most the objective of the
-- vertex: a node with a feasible vertex is closed.
abbrev pub VertexClosesLaw : Type 0
VertexClosesLaw =
    (d : DeckValue) (b : BoxValue) (p : PointValue) (y : MultipliersValue) (v : Rational)
    → VertexSays d b p y → IsAtMost v (objective d p) → Closes d b y v (pos 0)

-- ---- the boxes of a tree

-- Where the branch of each split fits, the box of each node lies within the root box.
abbrev pub BoxWithinLaw : Type 0
BoxWithinLaw =
    (d : DeckValue) (g : GrowthValue) (id : ℕ) → IsDeck d → IsGrowth g → SplitsFit d g
    → id < length g.nodes → IsWithinRoot d (box_at d g id)

-- Where the branch of each split fits, the low end of each semicontinuous column in the box of each
-- node is 0 or the column's threshold. For now of decks without arcs.
abbrev pub SemiLowsLaw : Type 0
SemiLowsLaw =
    (d : DeckValue) (g : GrowthValue) (id : ℕ) → IsDeck d → d.arcs ≡ [] → IsGrowth g → SplitsFit d g
    → id < length g.nodes → HasSemiLows d (box_at d g id)

-- ---- the vertices of a tree

-- A vertex of a node's box is a point of the box, so that the branch that it asks for cuts it off.
abbrev pub VertexPointLaw : Type 0
VertexPointLaw =
    (d : DeckValue) (g : GrowthValue) (id : ℕ) (p : PointValue) → IsDeck d → d.arcs ≡ []
    → IsGrowth g → SplitsFit d g → id < length g.nodes → HoldsOnBox d (box_at d g id) p
    → IsPointOf d (box_at d g id) p

-- A vertex of a node that asks for no branch is feasible.
abbrev pub FeasibleVertexLaw : Type 0
FeasibleVertexLaw =
    (d : DeckValue) (g : GrowthValue) (id : ℕ) (p : PointValue) → IsDeck d → IsGrowth g
    → SplitsFit d g → id < length g.nodes → HoldsOnBox d (box_at d g id) p → AsksForNone d p
    → Feasible d p
