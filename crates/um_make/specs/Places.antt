-- Entries, members and arcs that name rows and columns of their deck, as those of each well-formed deck do.
use Rattle.std.specs.Prelude.{ℕ, ◌<◌, List, length, All}
use Rattle.std.specs.Option.{ForSome}
use Rattle.um_model.specs.Values.{DeckValue}
use Rattle.um_model.specs.declared.deck.Arc.{Arc}
use Rattle.um_model.specs.declared.deck.Entry.{Entry}
use Rattle.um_model.specs.declared.deck.Member.{Member}

-- the row of each entry is one of so many
abbrev pub NameRows : (rows : ℕ) → List Entry → Type 0
NameRows rows entries = All (λ (e : Entry). e.row < rows) entries

-- the column of each member is one of so many
abbrev pub NameColumns : (columns : ℕ) → List Member → Type 0
NameColumns columns members = All (λ (m : Member). m.column < columns) members

-- the row, where it isn't the objective, and the column of an arc are among those of the deck
pub record HasPlaces (d : DeckValue) (a : Arc) : Type 0 where
  pub row : ForSome a.row (λ row. row < length d.rows)
  pub column : a.column < length d.columns
