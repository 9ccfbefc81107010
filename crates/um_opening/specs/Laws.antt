-- What the opening of a board means for the nodes that are solved on it.
use Rattle.std.specs.Prelude.{◌≡◌, ◌≢◌, ℕ, ℤ, [], List, Option, Some, None}
use Rattle.um_model.specs.Values.{DeckValue}
use Rattle.um_model.specs.WellFormed.{IsDeck}
use Rattle.um_model.specs.Rays.{Ray}
use Rattle.um_lp.specs.States.{State}
use Rattle.um_lp.specs.Boards.{IsStart, IsBoard}
use Rattle.um_lp.specs.declared.board.Costs.TheVariants.{Given, Nothing}
use Rattle.um_duality.specs.Relaxed.{deck_frame}
use Rattle.um_solving.specs.Laws.{MayBegin}
use Rattle.um_opening.specs.Openings.{ShowsRay}
use Rattle.um_opening.specs.Numbers.{Begins, MayGoOn}

-- On a board on which a number may be solved, its node may be begun in the state from which its box is put on.
abbrev pub BegunLaw : Type 0
BegunLaw = (d : DeckValue) (number : ℕ) (before : State) (early : ℕ) (ray : Option (List ℤ)) (begun : State) → d.arcs ≡ [] → MayGoOn d number before → Begins d number before early ray begun → MayBegin d begun

-- A number that shows no ray is begun with the given costs: number 1 always, and a later one on a board that takes them.
abbrev pub BegunCostsLaw : Type 0
BegunCostsLaw = (d : DeckValue) (number : ℕ) (before : State) (early : ℕ) (begun : State) → d.arcs ≡ [] → MayGoOn d number before → Begins d number before early None begun → (number ≢ 1 → before.costs ≡ Given) → begun.costs ≡ Given

-- A number that shows a ray is begun without costs.
abbrev pub BegunWithoutLaw : Type 0
BegunWithoutLaw = (d : DeckValue) (number : ℕ) (before : State) (early : ℕ) (shown : List ℤ) (begun : State) → Begins d number before early (Some shown) begun → begun.costs ≡ Nothing

-- What the start problem of a well-formed deck without arcs shows is a ray of the deck.
abbrev pub ShownRayLaw : Type 0
ShownRayLaw = (d : DeckValue) (s : State) (pivots : ℕ) (ray : List ℤ) → IsDeck d → d.arcs ≡ [] → IsStart (deck_frame d) s → IsBoard s → ShowsRay d s pivots ray → Ray d ray
