-- A search that goes on, or stopped early, with a history that no code keeps.
use Rattle.std.specs.Prelude.{◌≡◌, ℕ, suc, ◌+◌, ◌-◌, ◌<◌, ◌≤◌, ℤ, pos, ◌⊎◌, List, [], ◌∷◌, ◌++◌, length, Option, Some, None, IsSome, IsNone, option_map}
use Rattle.um_num.specs.Listed.{Listed}
use Rattle.um_multipliers.specs.PlainMultipliers.{MultipliersValue, plain_multipliers}
use Rattle.um_model.specs.Values.{DeckValue, PointValue, plain_point}
use Rattle.um_model.specs.Feasible.{Feasible}
use Rattle.um_model.specs.Accepted.{IsSmallPoint}
use Rattle.um_model.specs.declared.answer.Why.TheVariants as why
use Rattle.um_model.specs.declared.limits.TheConstants.{MOST_NUMBERS}
use Rattle.um_lp.specs.States.{State}
use Rattle.um_tree.specs.Growths.{GrowthValue, origin_at}
use Rattle.um_cover.specs.Sites.{way, box_at}
use Rattle.um_nodes.specs.declared.open_nodes.OpenNode.{OpenNode}
use Rattle.um_progress.specs.Waits.{Every, WaitsIn}
use Rattle.um_progress.specs.Numbers.{Number}
use Rattle.um_progress.specs.Searches.{IsSearch}
use Rattle.um_progress.specs.Lineage.{IsLineage}
use Rattle.um_opening.specs.Numbers.{parts_of}
use Rattle.um_turns.specs.Turns.{Turn, Reached, Halted, EndHolds, kept_multipliers, IsNoGrid}
use Rattle.um_turns.specs.Histories.{History, IsHistory, AreFinished, AreHanded, IsHanded, IsBest, state_behind, left_behind, ray_of}
use Rattle.um_turns.specs.NextTurns.{IsNextTurn}
use Rattle.um_turns.specs.ShownRays.{HasShown}
use Rattle.um_loop.specs.declared.search.Search.{Search}
use Rattle.um_loop.specs.declared.search.Halt.{Halt}
use Rattle.um_loop.specs.declared.search.Ending.{Ending}
use Rattle.um_loop.specs.declared.search.Ending.TheVariants as ending
use Rattle.um_loop.specs.Steps.{IsNotClosing}
use Rattle.um_turns.specs.UnnumberedNodes.{AreUnnumbered}
use Rattle.um_turns.specs.NeededTurns.{IsOpenBefore, AreNeeded}

-- how a search began: the state of its board, and how many pivots it had
pub record Beginning : Type 0 where
  pub start : State
  pub most : ℕ

-- the key of an entry has the id of its node, and the node's depth: as many steps as the way up to
-- the root has
pub record IsKeyOf (g : GrowthValue) (w : OpenNode) : Type 0 where
  pub id_is : w.key.id ≡ w.node
  pub depth_is : w.key.depth ≡ length (way g w.node)

-- A search of a deck with the tolerance 0, that began with a board in the state `start` and `most`
-- pivots. `hand` is a node that was taken and is not settled yet.
pub record IsGoing (d : DeckValue) (start : State) (most : ℕ) (hand : Option ℕ) (s : Search)
    (board : State) (left : ℕ) : Type 0 where
  pub history : History
  -- what holds of its tree, of what waits, and of the best point
  pub search : IsSearch Turn d (pos 0) history hand s.growth s.open s.incumbent s.least
  -- each number is counted
  pub solved : s.solved ≡ length history
  -- the turns hold
  pub told : IsHistory d start most s.growth history
  -- the search stopped in none of them
  pub finished : AreFinished history
  -- what waits has the multipliers that it was handed
  pub handed : AreHanded s.growth history s.open
  -- its keys have the ids and the depths of the nodes
  pub keys : Every (IsKeyOf s.growth) s.open
  -- each node without a number is void, or open, or closed with the multipliers that it was handed
  pub unnumbered : AreUnnumbered s.growth history
  -- each split has a number, and numbers rise from parents to children
  pub lineage : IsLineage s.growth
  -- the best point so far closed no node that was solved, and none that was split
  pub needed : AreNeeded d s.growth history
  -- the best point is the first of least objective among the feasible vertices
  pub best : IsBest d history s.incumbent
  -- the board is in the state, and as many pivots are left, as behind the last turn
  pub board_is : board ≡ state_behind start history
  pub left_is : left ≡ left_behind most history
  -- a point is there only with a least bound
  pub found : IsSome s.incumbent → IsSome s.least
  -- its ray is the one that the first turn has shown
  pub ray_is : parts_of s.ray ≡ ray_of history
  -- with a ray there is no best point, as the first feasible one ends the search
  pub no_best : IsSome s.ray → IsNone s.incumbent

-- an entry was taken: its node is in hand, with the multipliers that it was handed, and its key is
-- theirs, with the node's id and depth
pub record HasTaken (d : DeckValue) (start : State) (most : ℕ) (taken : OpenNode) (s : Search)
    (board : State) (left : ℕ) : Type 0 where
  pub going : IsGoing d start most (Some taken.node) s board left
  pub waits : WaitsIn d s.growth taken
  pub handed : IsHanded going.history (origin_at s.growth taken.node) (plain_multipliers taken.y)
  pub key : IsKeyOf s.growth taken

-- ---- an early stop

-- all nodes of the budget are solved, and the one in hand got no number: its key does not close it
-- at the best point
pub record HasSpent (d : DeckValue) (start : State) (most nodes : ℕ) (s : Search) (halt : Halt)
    (board : State) (left : ℕ) : Type 0 where
  pub taken : HasTaken d start most halt.hand s board left
  pub cause : halt.why ≡ why.Nodes
  pub none : halt.solved ≡ None
  pub all : s.solved ≡ nodes
  pub open_still : IsNotClosing d s.incumbent halt.hand.key

-- the ray that the turns before have shown, or what this one has shown if it is the first
abbrev pub ray_with : History → Option (List ℤ) → Option (List ℤ)
ray_with [] shown = shown
ray_with (n ∷ ns) shown = n.told.ray

-- The search stopped in the last turn, on the node in hand, which is open in the tree and has no
-- number there yet. The history is that of the turns before.
pub record HaltedAt (d : DeckValue) (start : State) (most : ℕ) (s : Search) (halt : Halt)
    (board : State) (rest : ℕ) : Type 0 where
  pub history : History
  -- the next ten: as of a search that goes on, with the node in hand
  pub search :
      IsSearch Turn d (pos 0) history (Some halt.hand.node) s.growth s.open s.incumbent s.least
  pub told : IsHistory d start most s.growth history
  pub finished : AreFinished history
  pub handed : AreHanded s.growth history s.open
  pub keys : Every (IsKeyOf s.growth) s.open
  pub unnumbered : AreUnnumbered s.growth history
  pub lineage : IsLineage s.growth
  pub needed : AreNeeded d s.growth history
  pub best : IsBest d history s.incumbent
  pub found : IsSome s.incumbent → IsSome s.least
  -- the last turn is counted, too
  pub solved : s.solved ≡ suc (length history)
  -- it is one of the first 100,000
  pub few : length history < MOST_NUMBERS
  -- the last turn, its pivots, and the node's own multipliers where they were read
  pub turn : Turn
  pub pivots : ℕ
  pub own : Option MultipliersValue
  -- it ended early, for the cause of the stop
  pub end_is : turn.end ≡ Halted halt.why own
  -- the node in hand got the next number, with the pivots
  pub number_is : halt.solved ≡ Some (record { number = suc (length history); pivots = pivots })
  -- the turn is that of the node in hand
  pub run :
      EndHolds d (box_at d s.growth halt.hand.node) turn pivots (suc (length history)) turn.end
  -- it began where the turn before ended, and its pivots were left
  pub before_is : turn.before ≡ state_behind start history
  pub left_is : turn.left ≡ left_behind most history
  pub within : pivots ≤ turn.left
  -- the node was handed these multipliers
  pub handed_is : IsHanded history (origin_at s.growth halt.hand.node) turn.handed
  -- they close it at no vertex so far
  pub hand_needed :
      IsOpenBefore d history (length history) (box_at d s.growth halt.hand.node) turn.handed
  -- the multipliers that the node keeps bound its box, and its key is theirs
  pub waits : WaitsIn d s.growth halt.hand
  -- the key has the node's id and depth
  pub hand_key : IsKeyOf s.growth halt.hand
  -- the multipliers that it keeps are its own where they were read, else those that it was handed
  pub kept : plain_multipliers halt.hand.y ≡ kept_multipliers turn.handed own
  -- the board is in the state, and as many pivots are left, as behind the last turn
  pub board_is : board ≡ turn.after
  pub rest_is : rest ≡ turn.left - pivots
  -- where a turn has shown a ray there is no best point
  pub no_best : IsSome (ray_with history turn.ray) → IsNone s.incumbent

-- the search stopped at the budget of nodes, or in a turn
abbrev pub HasStopped : DeckValue → State → ℕ → ℕ → Search → Halt → State → ℕ → Type 0
HasStopped d start most nodes s halt board left =
    HasSpent d start most nodes s halt board left ⊎ HaltedAt d start most s halt board left

-- ---- a feasible point of a deck with a ray

-- The search found the point in the last turn: the first turn has shown a ray, and this one ended
-- at a feasible vertex, as none before did. Its node is open in the tree and has no number there.
-- The history is that of the turns before.
pub record HasFound (d : DeckValue) (start : State) (most : ℕ) (s : Search) (p : PointValue)
    : Type 0 where
  pub history : History
  pub last : Number Turn
  -- the next five: as of a search that goes on, with the node of the last turn in hand
  pub search : IsSearch Turn d (pos 0) history (Some last.id) s.growth s.open s.incumbent s.least
  pub told : IsHistory d start most s.growth history
  pub finished : AreFinished history
  pub unnumbered : AreUnnumbered s.growth history
  pub lineage : IsLineage s.growth
  -- no vertex of the turns before is feasible
  pub none_before : IsBest d history None
  -- the last turn is the next one of its node: it began where the turn before ended, with the
  -- pivots that were left
  pub next : IsNextTurn d start most s.growth history last.id last
  -- it ended at the point, with these multipliers
  pub own : MultipliersValue
  pub end : last.told.end ≡ Reached p own
  -- the last turn is counted, too
  pub solved : s.solved ≡ suc (length history)
  -- the ray that the search keeps
  pub ray : Listed ℤ
  pub ray_is : s.ray ≡ Some ray
  -- it is the one that the first turn has shown, which may be the last turn itself
  pub first : ray_of (history ++ last ∷ []) ≡ Some ray.items
  -- the start problem has shown it, on the board with which the search began
  pub shown : HasShown d start most ray.items
  -- the point is feasible, and its numbers are small
  pub feasible : Feasible d p
  pub small : IsSmallPoint p

-- ---- a run of the loop

-- a stop as the ending of a run
abbrev pub ending_of : Option Halt → Option Ending
ending_of halt = option_map (λ (h : Halt). ending.Halted h) halt

-- the ending is not that of a limit of the grid
abbrev pub IsNoGridEnding : Ending → Type 0
IsNoGridEnding (ending.Halted halt) = IsNoGrid halt.why
IsNoGridEnding (ending.Found point) = Unit {0}

-- nothing waits
pub record RanOut (d : DeckValue) (start : State) (most : ℕ) (s : Search) (board : State) (left : ℕ)
    : Type 0 where
  pub going : IsGoing d start most None s board left
  pub none : s.open ≡ []

-- where a run ended: nothing waits, it stopped early, or it found a point of a deck with a ray
abbrev pub HasRun : DeckValue → State → ℕ → ℕ → Option Ending → Search → State → ℕ → Type 0
HasRun d start most nodes None s board left = RanOut d start most s board left
HasRun d start most nodes (Some (ending.Halted halt)) s board left =
    HasStopped d start most nodes s halt board left
HasRun d start most nodes (Some (ending.Found point)) s board left =
    HasFound d start most s (plain_point point)

-- a number was solved, and at most two nodes more wait
pub record WentOn (d : DeckValue) (start : State) (most : ℕ) (before after : Search) (board : State)
    (left : ℕ) : Type 0 where
  pub going : IsGoing d start most None after board left
  pub solved : after.solved ≡ before.solved + 1
  pub waiting : length after.open ≤ length before.open + 2

-- where the solving of a node led: the search goes on, it stopped in this turn, or it found a point
abbrev pub GoesOn : DeckValue → State → ℕ → Search → Option Ending → Search → State → ℕ → Type 0
GoesOn d start most before None after board left = WentOn d start most before after board left
GoesOn d start most before (Some (ending.Halted halt)) after board left =
    HaltedAt d start most after halt board left
GoesOn d start most before (Some (ending.Found point)) after board left =
    HasFound d start most after (plain_point point)
