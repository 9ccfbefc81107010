-- Why a board refuses: an operation is out of range, and a state that the call is about has large numbers.
use Rattle.std.specs.Prelude.{◌||◌, IsTrue}
use Rattle.um_num.specs.declared.exact.Wide.{Wide}
use Rattle.um_num.specs.Numbers.{IsOutOfRange}
use Rattle.um_lp.specs.States.{State}
use Rattle.um_lp.specs.WideStates.{is_wide}

-- a number of this state is not read: the state is wide
pub record IsRefusedAt (s : State) (w : Wide) : Type 0 where
  pub operation : IsOutOfRange w
  pub wide : IsTrue (is_wide s)

-- an act on this state is not done: the state, or the one to which the act leads, is wide
pub record IsRefusedAct (s : State) (LeadsTo : State → Type 0) (w : Wide) : Type 0 where
  pub operation : IsOutOfRange w
  pub next : State
  pub leads : LeadsTo next
  pub wide : IsTrue (is_wide s || is_wide next)
