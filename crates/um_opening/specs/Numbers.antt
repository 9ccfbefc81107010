-- How the node of a number is solved: the board is opened first where it is number 1.
use Rattle.std.specs.Prelude.{◌≡◌, ◌≢◌, ℕ, ◌+◌, ◌-◌, ℤ, ◌⊎◌, List, Option, Some, None, option_map}
use Rattle.um_num.specs.Listed.{Listed}
use Rattle.um_model.specs.Values.{DeckValue}
use Rattle.um_model.specs.Boxes.{BoxValue}
use Rattle.um_model.specs.declared.answer.Why.{Why}
use Rattle.um_lp.specs.States.{State}
use Rattle.um_lp.specs.Boards.{IsBoard, IsStart}
use Rattle.um_duality.specs.Relaxed.{deck_frame}
use Rattle.um_solving.specs.Endings.{EndedAs}
use Rattle.um_solving.specs.Laws.{MayBegin}
use Rattle.um_solving.specs.declared.node.NodeEnd.TheVariants as end
use Rattle.um_opening.specs.Openings.{IsOpenWithCosts, IsOpenWithout, StoppedOpening}
use Rattle.um_opening.specs.declared.numbers.NumberEnd.{NumberEnd}

-- the state from which the node's box is put on the board, and the pivots that were made before under its number: number 1 opens the board, and every later one goes on where the one before ended; the ray is one that the opening has shown
pub data Begins (d : DeckValue) (number : ℕ) (before : State) (early : ℕ) (ray : Option (List ℤ)) (begun : State) : Type 0 where
  Onward : number ≢ 1 → early ≡ 0 → ray ≡ None → begun ≡ before → Begins d number before early ray begun
  WithCosts : number ≡ 1 → ray ≡ None → IsOpenWithCosts d before early begun → Begins d number before early ray begun
  WithoutCosts : number ≡ 1 → (shown : List ℤ) → ray ≡ Some shown → IsOpenWithout d before early shown begun → Begins d number before early ray begun

-- under this number so many pivots were made: some before the node's box was put on the board, and the steps of a run on the box, of which this holds
pub record IsNumberRun (d : DeckValue) (number : ℕ) (before : State) (pivots : ℕ) (ray : Option (List ℤ)) (Holds : State → ℕ → ℕ → Type 0) : Type 0 where
  pub begun : State
  pub early : ℕ
  pub steps : ℕ
  pub begins : Begins d number before early ray begun
  pub adds : pivots ≡ early + steps
  pub holds : Holds begun early steps

-- the search stopped at its opening, under number 1, which led the board from one state to the other
pub record IsStoppedFirst (d : DeckValue) (number : ℕ) (before : State) (pivots left : ℕ) (cause : Why) (after : State) : Type 0 where
  pub first : number ≡ 1
  pub stopped : StoppedOpening d before pivots left cause after

-- the parts of a ray, if there is one
abbrev pub parts_of : Option (Listed ℤ) → Option (List ℤ)
parts_of ray = option_map (λ (r : Listed ℤ). r.items) ray

-- the node was not begun, as the search stopped at its opening; no multipliers are read
pub record NotBegun (d : DeckValue) (before : State) (pivots left number : ℕ) (e : NumberEnd) (after : State) : Type 0 where
  pub cause : Why
  pub stopped : IsStoppedFirst d number before pivots left cause after
  pub end_is : e.end ≡ end.Stopped cause None
  pub no_ray : e.ray ≡ None

-- the node of this number ended so, with the board led from one state to the other, after so many pivots of those that were left
abbrev pub NumberEndedAs : DeckValue → BoxValue → State → ℕ → ℕ → ℕ → NumberEnd → State → Type 0
NumberEndedAs d b before pivots left number e after =
    IsNumberRun d number before pivots (parts_of e.ray) (λ begun early steps. EndedAs d b begun early steps (left - early) number e.end after) ⊎ NotBegun d before pivots left number e after

-- a board on which the node of this number may be solved: a board that starts for number 1, and for every later one a board on which a node may be begun
pub record MayGoOn (d : DeckValue) (number : ℕ) (s : State) : Type 0 where
  pub board : IsBoard s
  pub first : number ≡ 1 → IsStart (deck_frame d) s
  pub later : number ≢ 1 → MayBegin d s
