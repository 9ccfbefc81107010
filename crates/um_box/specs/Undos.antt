-- What leaving a child's box puts back.
use Rattle.std.specs.Prelude.{◌≡◌, ◌<◌, length}
use Rattle.um_model.specs.Values.{DeckValue}
use Rattle.um_box.specs.NodeBoxes.{NodeBoxValue, IsNodeBox, put_ends, put_first, put_last}
use Rattle.um_box.specs.declared.undo.Undo.{Undo}
use Rattle.um_box.specs.declared.undo.Replaced.{Replaced}
use Rattle.um_box.specs.declared.undo.Replaced.TheVariants.{OldEnds, OldFirst, OldLast}

-- the box with the replaced part put back
abbrev pub put_back : NodeBoxValue → Replaced → NodeBoxValue
put_back b (OldEnds column low high) = put_ends b column (record { low = low; high = high })
put_back b (OldFirst set position) = put_first b set position
put_back b (OldLast set position) = put_last b set position

-- the column or set is one of the deck
abbrev pub IsPlaceOf : DeckValue → Replaced → Type 0
IsPlaceOf d (OldEnds column low high) = column < length d.columns
IsPlaceOf d (OldFirst set position) = set < length d.sets
IsPlaceOf d (OldLast set position) = set < length d.sets

-- the box that leaving gives
abbrev pub undone : Undo → NodeBoxValue → NodeBoxValue
undone undo b = put_back b undo.replaced

-- with this undo the box may be left
pub record Belongs (undo : Undo) (b : NodeBoxValue) : Type 0 where
  pub place : IsPlaceOf b.deck undo.replaced
  pub node : IsNodeBox (undone undo b)

-- leaving the second box gives the first
pub record Undoes (undo : Undo) (outer inner : NodeBoxValue) : Type 0 where
  pub back : undone undo inner ≡ outer
  pub belongs : Belongs undo inner
