-- How a board gets the ends of a box.
use Rattle.std.specs.Prelude.{◌≡◌, ℕ, ◌<◌, zero, suc}
use Rattle.um_num.specs.declared.exact.Wide.{Wide}
use Rattle.um_model.specs.Values.{DeckValue}
use Rattle.um_model.specs.Boxes.{BoxValue}
use Rattle.um_lp.specs.States.{State, width, at_of, reduced_of}
use Rattle.um_lp.specs.Boards.{IsRebox, IsWantedEndFinite}
use Rattle.um_lp.specs.Refusals.{IsRefusedAct}
use Rattle.um_lp.specs.DualSteps.{IsDualFeasible}
use Rattle.um_duality.specs.Boxed.{ends_on, IsBoxed}
use Rattle.um_relax.specs.declared.ends.Reboxed.{Reboxed}
use Rattle.um_relax.specs.declared.ends.Reboxed.TheVariants as reboxed

-- each end of the box that a reduced cost wants is finite
abbrev pub WantsFiniteEnds : DeckValue → BoxValue → State → Type 0
WantsFiniteEnds d b s = (column : ℕ) → column < width s.frame → IsWantedEndFinite (at_of s column) (reduced_of s column) (ends_on d b column)

-- the columns below this count have got the ends of the box, by rising index
abbrev pub AreReboxed : DeckValue → BoxValue → ℕ → State → State → Type 0
AreReboxed d b zero s t = t ≡ s
AreReboxed d b (suc n) s t = (between : State) × AreReboxed d b n s between × IsRebox n (ends_on d b n) between t

-- some columns have got their ends, and the next is refused them
pub record StoppedBefore (d : DeckValue) (b : BoxValue) (w : Wide) (s t : State) : Type 0 where
  pub count : ℕ
  pub within : count < width s.frame
  pub done : AreReboxed d b count s t
  pub refused : IsRefusedAct t (IsRebox count (ends_on d b count) t) w

-- all columns have got their ends
pub record BoxedWhole (d : DeckValue) (b : BoxValue) (s t : State) : Type 0 where
  pub done : AreReboxed d b (width s.frame) s t
  pub boxed : IsBoxed d b t
  pub feasible : IsDualFeasible t

-- what came of putting the ends of a box on a board; a deck without arcs has no grid that could be full
abbrev pub IsReboxed : DeckValue → BoxValue → Reboxed → State → State → Type 0
IsReboxed d b reboxed.Done s t = BoxedWhole d b s t
IsReboxed d b (reboxed.Full column) s t = ⊥
IsReboxed d b (reboxed.Wide w) s t = StoppedBefore d b w s t
