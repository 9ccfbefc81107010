-- The parts of a deck, before they are one.
use Rattle.std.specs.Prelude.{◌≡◌, Some}
use Rattle.um_deck.specs.declared.deck.DeckParts.{DeckParts}
use Rattle.um_deck.specs.DeckParts.{deck_of}
use Rattle.um_statements.specs.Said.{Said}
use Rattle.um_statements.specs.Made.{deck_value}
use Rattle.um_made.specs.declared.told.Told.{Told}
use Rattle.um_made.specs.Views.{said_of}

abbrev pub said : Told → Said
said t = said_of (Some t.name) t.maximise t.rows.items t.columns.items t.sets.items t.arcs.items

-- these are the parts of the deck that the statements make
abbrev pub AreParts : Said → DeckParts → Type 0
AreParts s parts = deck_of parts ≡ deck_value s
