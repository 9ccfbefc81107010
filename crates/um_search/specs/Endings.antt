-- How a search ended: no node waits any more, it found a point of a deck with a ray, or it stopped
-- early.
use Rattle.std.specs.Prelude.{ℕ, Option, Some, None}
use Rattle.um_model.specs.Values.{DeckValue, PointValue}
use Rattle.um_model.specs.declared.answer.AnswerKind.{AnswerKind}
use Rattle.um_model.specs.declared.answer.AnswerKind.TheVariants.{Optimal, Infeasible as HasNone}
use Rattle.um_lp.specs.States.{State}
use Rattle.um_progress.specs.declared.incumbent.Incumbent.{Incumbent}
use Rattle.um_loop.specs.declared.search.Search.{Search}
use Rattle.um_loop.specs.declared.search.Halt.{Halt}
use Rattle.um_loop.specs.Goings.{RanOut, HasStopped, HasFound}

-- a search with so many pivots, begun on some board, in which no node waits any more
pub record HasRunOut (d : DeckValue) (pivots : ℕ) (s : Search) : Type 0 where
  pub start : State
  pub board : State
  pub left : ℕ
  pub ran : RanOut d start pivots s board left

-- the kind of its answer
abbrev pub kind_of_over : Option Incumbent → AnswerKind
kind_of_over None = HasNone
kind_of_over (Some i) = Optimal

-- a search with so many pivots, begun on some board, that found this point of a deck with a ray
pub record IsFound (d : DeckValue) (pivots : ℕ) (s : Search) (p : PointValue) : Type 0 where
  pub start : State
  pub found : HasFound d start pivots s p

-- a search with so many pivots and nodes, begun on some board, that stopped early
pub record IsHalted (d : DeckValue) (pivots nodes : ℕ) (s : Search) (halt : Halt) : Type 0 where
  pub start : State
  pub board : State
  pub left : ℕ
  pub stopped : HasStopped d start pivots nodes s halt board left
