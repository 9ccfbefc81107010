-- The deck of some parts.
use Rattle.std.specs.Prelude.{map}
use Rattle.um_model.specs.Values.{DeckValue, plain_column, plain_set}
use Rattle.um_deck.specs.declared.deck.DeckParts.{DeckParts}

-- the deck of the parts that the program holds, field by field
abbrev pub deck_of : DeckParts → DeckValue
deck_of parts = record {
  name = parts.name;
  objective_name = parts.objective_name;
  maximise = parts.maximise;
  scale = parts.scale;
  constant = parts.constant;
  rows = parts.rows.items;
  columns = map plain_column parts.columns.items;
  sets = map plain_set parts.sets.items;
  arcs = parts.arcs.items;
}
