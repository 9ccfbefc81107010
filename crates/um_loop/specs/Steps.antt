-- What each act changes of a search.
use Rattle.std.specs.Prelude.{◌≡◌, ◌≢◌, ℕ, suc, ◌+◌, ◌<◌, ◌^◌, ℤ, pos, unsigned_abs, ◌⊎◌, List, ◌++◌, length, Option, Some, None, IsSome, IsNone, IsSomeAnd, IfSome, option_map}
use Rattle.um_laws.specs.Rational.{Rational}
use Rattle.um_num.specs.Listed.{Listed}
use Rattle.um_multipliers.specs.PlainMultipliers.{MultipliersValue, plain_multipliers}
use Rattle.um_model.specs.Values.{DeckValue, PointValue, plain_point}
use Rattle.um_model.specs.Feasible.{Feasible}
use Rattle.um_model.specs.Objective.{objective}
use Rattle.um_model.specs.LeafValue.{leaf_value, leaf_bound, Reaches}
use Rattle.um_model.specs.Accepted.{IsAtMost, IsSmallPoint}
use Rattle.um_model.specs.Boxes.{BoxValue}
use Rattle.um_model.specs.Branches.{Fits, left, right}
use Rattle.um_model.specs.AnswerValues.{NodeValue, Bounded, Empty}
use Rattle.um_model.specs.declared.answer.Why.{Why}
use Rattle.um_model.specs.declared.answer.Why.TheVariants as why
use Rattle.um_multipliers.specs.Sizes.{AreBelow}
use Rattle.um_solving.specs.Laws.{VertexSays, HeldSays, EmptySays, OwnSays}
use Rattle.um_solving.specs.declared.node.NodeEnd.{NodeEnd}
use Rattle.um_solving.specs.declared.node.NodeEnd.TheVariants as end
use Rattle.um_model.specs.declared.branch.Branch.{Branch}
use Rattle.um_model.specs.declared.point.Point.{Point}
use Rattle.um_model.specs.declared.tree.Solved.{Solved}
use Rattle.um_model.specs.declared.limits.TheConstants.{MULTIPLIER_SIZE}
use Rattle.um_tree.specs.Growths.{parted, settled}
use Rattle.um_nodes.specs.declared.open_nodes.Key.{Key}
use Rattle.um_nodes.specs.declared.open_nodes.OpenNode.{OpenNode}
use Rattle.um_progress.specs.declared.incumbent.Incumbent.{Incumbent}
use Rattle.um_progress.specs.Waits.{Every, KeyIs}
use Rattle.um_progress.specs.Searches.{IsLesser, ChildIs}
use Rattle.um_progress.specs.Incumbents.{objective_of}
use Rattle.um_children.specs.NewChildren.{IsEntryUnder, IsNewNode}
use Rattle.um_split.specs.Branchings.{IsBranchOf, AsksForNone}
use Rattle.um_split.specs.Laws.{IsPointOf}
use Rattle.um_loop.specs.declared.search.Search.{Search}
use Rattle.um_loop.specs.declared.search.Halt.{Halt}
use Rattle.um_loop.specs.declared.search.Ending.{Ending}
use Rattle.um_loop.specs.declared.search.Ending.TheVariants as ending

-- ---- the best point

-- the objective is below that of the best point so far, if there is one
abbrev pub IsBelowBest : Rational → Option Incumbent → Type 0
IsBelowBest x best = IfSome (objective_of best) (λ v. ¬ IsAtMost v x)

-- the point is feasible, and below the best so far; with its objective it is the best then
pub record IsNewBest (d : DeckValue) (p : PointValue) (old new : Option Incumbent) : Type 0 where
  pub feasible : Feasible d p
  pub best : Incumbent
  pub new_is : new ≡ Some best
  pub point_is : plain_point best.point ≡ p
  pub objective_is : best.objective ≡ objective d p
  pub below : IsBelowBest best.objective old

-- the best so far stays, and the point is not feasible or not below it
pub record IsOldBest (d : DeckValue) (p : PointValue) (old new : Option Incumbent) : Type 0 where
  pub same : new ≡ old
  pub above : Feasible d p → IsSomeAnd (objective_of old) (λ v. IsAtMost v (objective d p))

-- the best of the best point so far and this point; of equal ones the older stays
abbrev pub IsBestOf : DeckValue → PointValue → Option Incumbent → Option Incumbent → Type 0
IsBestOf d p old new = IsNewBest d p old new ⊎ IsOldBest d p old new

-- ---- keys

-- the key has a bound, which is this one, and closes a node at the best point
pub record IsClosing (d : DeckValue) (best : Option Incumbent) (k : Key) (bound : Rational)
    : Type 0 where
  pub some : k.y0 ≢ pos 0
  pub reaches : IsSomeAnd (objective_of best) (λ v. Reaches d k.y0 k.value v (pos 0))
  pub bound_is : bound ≡ leaf_bound d k.y0 k.value

-- the key closes no node at the best point
abbrev pub IsNotClosing : DeckValue → Option Incumbent → Key → Type 0
IsNotClosing d best k = (bound : Rational) → ¬ IsClosing d best k bound

-- ---- the tree

-- the search, but a node is closed by these multipliers, and this is the least bound
abbrev pub closed_search : Search → ℕ → Option Solved → MultipliersValue → Rational → Search
closed_search s id solved y least =
    record s {
      growth = settled s.growth id (record { solved = solved; what = Bounded y });
      least = Some least;
    }

-- a node became closed by these multipliers, whose bound is counted
pub record HasClosed (before : Search) (id : ℕ) (solved : Option Solved) (y : MultipliersValue)
    (bound : Rational) (after : Search) : Type 0 where
  pub least : Rational
  pub lesser : IsLesser before.least bound (Some least)
  pub after_is : after ≡ closed_search before id solved y least

-- the search, but a node is an empty leaf
abbrev pub emptied_search : Search → ℕ → Solved → MultipliersValue → Search
emptied_search s id solved y =
    record s { growth = settled s.growth id (record { solved = Some solved; what = Empty y }) }

-- the search, but a node is a split into these children, and these entries wait for the first and
-- for the second
abbrev pub branched_search : Search → ℕ → Solved → Branch → NodeValue → NodeValue → List OpenNode
    → List OpenNode → Search
branched_search s id solved branch first second first_more second_more =
    record s {
      growth = parted s.growth id (Some solved) branch first second;
      «open» = (s.open ++ first_more) ++ second_more;
    }

-- a node became a split, and the entries of its open children, of this depth, wait under these
-- multipliers and under their own ids; a child stands void or under 1 and none in the tree
pub record HasBranched (d : DeckValue) (b : BoxValue) (before : Search) (id depth : ℕ)
    (solved : Solved) (branch : Branch) (y : MultipliersValue) (after : Search) : Type 0 where
  pub first : NodeValue
  pub second : NodeValue
  pub first_more : List OpenNode
  pub second_more : List OpenNode
  pub first_is : (incumbent : Option Rational) (tolerance : ℤ)
      → ChildIs d incumbent tolerance (left d b branch) (length before.growth.nodes) first
      first_more
  pub second_is : (incumbent : Option Rational) (tolerance : ℤ)
      → ChildIs d incumbent tolerance (right d b branch) (suc (length before.growth.nodes)) second
      second_more
  pub first_handed : Every (IsEntryUnder (length before.growth.nodes) depth y) first_more
  pub second_handed : Every (IsEntryUnder (suc (length before.growth.nodes)) depth y) second_more
  pub first_new : IsNewNode d (left d b branch) first
  pub second_new : IsNewNode d (right d b branch) second
  pub after_is : after ≡ branched_search before id solved branch first second first_more second_more

-- ---- the ray

-- number 1 keeps the ray that was shown, if one was, and a later one leaves what is there
pub record HasKeptRay (number : ℕ) (shown : Option (Listed ℤ)) (before after : Search)
    : Type 0 where
  pub same : after ≡ record before { ray = after.ray }
  pub first : number ≡ 1 → after.ray ≡ shown
  pub later : number ≢ 1 → after.ray ≡ before.ray

-- ---- a node that ended at a vertex

-- the key closes the node at the best point
pub record ClosedAtVertex (d : DeckValue) (before : Search) (id : ℕ) (solved : Solved)
    (y : MultipliersValue) (k : Key) (after : Search) : Type 0 where
  pub bound : Rational
  pub closing : IsClosing d before.incumbent k bound
  pub closed : HasClosed before id (Some solved) y bound after

-- the key does not close it, and it is branched: its children are one step below it
pub record BranchedAtVertex (d : DeckValue) (b : BoxValue) (before : Search) (taken : OpenNode)
    (solved : Solved) (asked : Option Branch) (y : MultipliersValue) (k : Key) (after : Search)
    : Type 0 where
  pub open_still : IsNotClosing d before.incumbent k
  pub branch : Branch
  pub asked_is : asked ≡ Some branch
  pub branched : HasBranched d b before taken.node (taken.key.depth + 1) solved branch y after

-- the key does not close it, and no branch is asked for: the search stops, and the node keeps the
-- multipliers of the vertex
pub record StoppedAtGrid (d : DeckValue) (before : Search) (id : ℕ) (solved : Solved)
    (asked : Option Branch) (y : MultipliersValue) (k : Key) (halt : Halt) (after : Search)
    : Type 0 where
  pub open_still : IsNotClosing d before.incumbent k
  pub none : asked ≡ None
  pub same : after ≡ before
  pub cause : halt.why ≡ why.Grid solved.number
  pub number_is : halt.solved ≡ Some solved
  pub node_is : halt.hand.node ≡ id
  pub key_is : halt.hand.key ≡ k
  pub multipliers : plain_multipliers halt.hand.y ≡ y

-- where the vertex led, for which this branch is asked, if one is
abbrev pub VertexLed : DeckValue → BoxValue → Search → OpenNode → Solved → Option Branch
    → MultipliersValue → Key → Option Halt → Search → Type 0
VertexLed d b before taken solved asked y k None after =
    ClosedAtVertex d before taken.node solved y k after
    ⊎ BranchedAtVertex d b before taken solved asked y k after
VertexLed d b before taken solved asked y k (Some halt) after =
    StoppedAtGrid d before taken.node solved asked y k halt after

-- the search but for its best point
abbrev pub with_best : Search → Option Incumbent → Search
with_best s best = record s { incumbent = best }

-- a vertex was reached: it is the best point then where it is better, and its node is closed or
-- branched, or the search stops. The key is that of its multipliers on the box, with the id and the
-- depth that the node had, and the branch is what it asks for, which fits the box
pub record AfterVertex (d : DeckValue) (b : BoxValue) (before : Search) (taken : OpenNode)
    (solved : Solved) (p : PointValue) (y : MultipliersValue) (halt : Option Halt) (after : Search)
    : Type 0 where
  pub best : Option Incumbent
  pub best_is : IsBestOf d p before.incumbent best
  pub asked : Option Branch
  pub asked_is : IfSome asked (IsBranchOf d p)
  pub none_is : IsNone asked → AsksForNone d p
  pub fits : IfSome asked (Fits d b)
  pub key : Key
  pub key_is : KeyIs (leaf_value d b y) y.y0 key
  pub key_size : unsigned_abs key.value < 2 ^ 126
  pub key_id : key.id ≡ taken.key.id
  pub key_depth : key.depth ≡ taken.key.depth
  pub led : VertexLed d b (with_best before best) taken solved asked y key halt after

-- ---- a node that ended

-- A vertex of a box, with its multipliers, as it was read.
pub record IsReadVertex (d : DeckValue) (b : BoxValue) (p : PointValue) (y : MultipliersValue)
    : Type 0 where
  -- their numbers are small
  pub small : IsSmallPoint p
  pub below : AreBelow MULTIPLIER_SIZE y
  -- what they mean for the deck, whichever costs the board takes
  pub says : HeldSays d b p y
  -- it is a point of the box, so that the branch that it asks for fits the box
  pub point : IsPointOf d b p
  -- it is feasible where it asks for none
  pub feasible : AsksForNone d p → Feasible d p

-- And where it is feasible, the bound of its multipliers is its objective. Without costs this is
-- asked of vertices that are not feasible alone.
pub record IsVertex (d : DeckValue) (b : BoxValue) (p : PointValue) (y : MultipliersValue)
    : Type 0 where
  pub read : IsReadVertex d b p y
  pub tight : Feasible d p → VertexSays d b p y

-- what is known of the numbers with which a node ended, from the run that they came from; without a
-- ray the board took the given costs
abbrev pub EndSays : DeckValue → BoxValue → Option (Listed ℤ) → NodeEnd → Type 0
EndSays d b ray (end.Vertex point y) =
    IsReadVertex d b (plain_point point) (plain_multipliers y)
    × (IsNone ray → VertexSays d b (plain_point point) (plain_multipliers y))
EndSays d b ray (end.Empty y) =
    AreBelow MULTIPLIER_SIZE (plain_multipliers y) × EmptySays d b (plain_multipliers y)
EndSays d b ray (end.Stopped cause own) = IfSome own (λ y. OwnSays d (plain_multipliers y))

-- the node that was taken under these multipliers, which are its own; the key is theirs, with the
-- id and the depth that the node had
pub record HasOwn (d : DeckValue) (b : BoxValue) (taken : OpenNode) (y : MultipliersValue)
    (w : OpenNode) : Type 0 where
  pub node_is : w.node ≡ taken.node
  pub multipliers : plain_multipliers w.y ≡ y
  pub key_is : KeyIs (leaf_value d b y) y.y0 w.key
  pub key_size : unsigned_abs w.key.value < 2 ^ 126
  pub key_id : w.key.id ≡ taken.key.id
  pub key_depth : w.key.depth ≡ taken.key.depth

-- the node in hand with its own multipliers where they were read, else as it was taken
abbrev pub IsKept : DeckValue → BoxValue → OpenNode → Option MultipliersValue → OpenNode → Type 0
IsKept d b taken None hand = hand ≡ taken
IsKept d b taken (Some y) hand = HasOwn d b taken y hand

-- the stop in the solving of the node in hand
pub record HasStoppedAt (d : DeckValue) (b : BoxValue) (taken : OpenNode) (solved : Solved)
    (cause : Why) (own : Option MultipliersValue) (halt : Halt) : Type 0 where
  pub cause_is : halt.why ≡ cause
  pub number_is : halt.solved ≡ Some solved
  pub kept : IsKept d b taken own halt.hand

-- the search stopped in the solving of the node, and nothing changed
abbrev pub StoppedWith : DeckValue → BoxValue → Search → OpenNode → Solved → Why
    → Option MultipliersValue → Option Ending → Search → Type 0
StoppedWith d b before taken solved cause own None after = ⊥
StoppedWith d b before taken solved cause own (Some (ending.Halted halt)) after =
    HasStoppedAt d b taken solved cause own halt × (after ≡ before)
StoppedWith d b before taken solved cause own (Some (ending.Found point)) after = ⊥

-- the deck has a ray, and the vertex is feasible: it ends the search, and nothing changed
pub record IsFoundVertex (d : DeckValue) (before : Search) (p : PointValue) (point : Point)
    (after : Search) : Type 0 where
  pub ray : IsSome before.ray
  pub feasible : Feasible d p
  pub same : plain_point point ≡ p
  pub after_is : after ≡ before

-- without a ray, or where it is not feasible, the vertex is closed or branched, or stops the search
pub record IsNoFound (d : DeckValue) (b : BoxValue) (before : Search) (taken : OpenNode)
    (solved : Solved) (p : PointValue) (y : MultipliersValue) (halt : Option Halt) (after : Search)
    : Type 0 where
  pub not_found : IsSome before.ray → ¬ Feasible d p
  pub led : AfterVertex d b before taken solved p y halt after

-- what became of the search at a vertex
abbrev pub VertexSettled : DeckValue → BoxValue → Search → OpenNode → Solved → PointValue
    → MultipliersValue → Option Ending → Search → Type 0
VertexSettled d b before taken solved p y None after =
    IsNoFound d b before taken solved p y None after
VertexSettled d b before taken solved p y (Some (ending.Halted halt)) after =
    IsNoFound d b before taken solved p y (Some halt) after
VertexSettled d b before taken solved p y (Some (ending.Found point)) after =
    IsFoundVertex d before p point after

-- what became of the search where the node in hand ended so
abbrev pub HasSettled : DeckValue → BoxValue → Search → OpenNode → Solved → NodeEnd → Option Ending
    → Search → Type 0
HasSettled d b before taken solved (end.Vertex point y) led after =
    VertexSettled d b before taken solved (plain_point point) (plain_multipliers y) led after
HasSettled d b before taken solved (end.Empty y) led after =
    IsNone led × (after ≡ emptied_search before taken.node solved (plain_multipliers y))
HasSettled d b before taken solved (end.Stopped cause own) led after =
    StoppedWith d b before taken solved cause (option_map plain_multipliers own) led after
