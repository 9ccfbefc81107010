-- A growing tree that a checker can read.
use Rattle.std.specs.Prelude.{ℕ, ◌<◌, length}
use Rattle.um_model.specs.Values.{DeckValue}
use Rattle.um_model.specs.Checkable.{IsCheckableWhat}
use Rattle.um_tree.specs.Growths.{GrowthValue, what_at}

-- each node speaks of rows and columns that the deck has
abbrev pub AreCheckable : DeckValue → GrowthValue → Type 0
AreCheckable d g = (id : ℕ) → id < length g.nodes → IsCheckableWhat d (what_at g id)
